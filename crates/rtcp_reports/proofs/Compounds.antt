-- What is said of a compound packet by its first packet, and by those behind it.
use Rattle.std.proofs.Common.{◌≡◌, ℕ, List, drop, Some, None, Ok, Err, refl}
use Rattle.rtcp_reports.specs.Rtcp.{refusal_in, report_size, report_view, compound}
use Rattle.rtcp_reports.specs.declared.refusal.RtcpRefusal.{RtcpRefusal}

pub refused_first : (bytes : List ℕ) (refusal : RtcpRefusal) → report_size bytes ≡ Err refusal → compound bytes ≡ Err refusal
unfolding compound
refused_first bytes refusal is = rw is refl

pub refused_later : (bytes : List ℕ) (size : ℕ) (refusal : RtcpRefusal) → report_size bytes ≡ Ok size → refusal_in (drop size bytes) ≡ Some refusal → compound bytes ≡ Err refusal
unfolding compound
refused_later bytes size refusal first later = rw (first, later) refl

pub accepted : (bytes : List ℕ) (size : ℕ) → report_size bytes ≡ Ok size → refusal_in (drop size bytes) ≡ None → compound bytes ≡ Ok (report_view bytes)
unfolding compound
accepted bytes size first none = rw (first, none) refl

-- What is said of one packet, by its tests.
use Rattle.std.proofs.Common.{◌≡◌, ◌≢◌, ℕ, ◌<◌, ◌≤◌, true, false, List, length, Ok, Err, refl}
use Rattle.std.proofs.lemmas.Bool.{lt-ltb, le-ltb, ne_eqb}
use Rattle.link_model.specs.Packets.{version}
use Rattle.rtcp_reports.specs.Rtcp.{packet_size, whole_packet, is_report, report_room, report_size}
use Rattle.rtcp_reports.specs.declared.refusal.RtcpRefusal.TheVariants.{Short, Version, First}

-- ---- any packet

pub packet_whole : (bytes : List ℕ) (size : ℕ) → 4 ≤ length bytes → version bytes ≡ 2 → packet_size bytes ≡ size → size ≤ length bytes → whole_packet bytes ≡ Ok size
unfolding whole_packet
packet_whole bytes size long two told room =
    rw (le-ltb (length bytes) 4 long, two, told, le-ltb (length bytes) size room) refl

-- ---- the first

pub report_short : (bytes : List ℕ) → length bytes < 8 → report_size bytes ≡ Err Short
unfolding report_size
report_short bytes few = rw (lt-ltb (length bytes) 8 few) refl

pub report_other : (bytes : List ℕ) → 8 ≤ length bytes → version bytes ≢ 2 → report_size bytes ≡ Err Version
unfolding report_size
report_other bytes long other = rw (le-ltb (length bytes) 8 long, ne_eqb (version bytes) 2 other) refl

pub report_none : (bytes : List ℕ) → 8 ≤ length bytes → version bytes ≡ 2 → is_report bytes ≡ false → report_size bytes ≡ Err First
unfolding report_size
report_none bytes long two none = rw (le-ltb (length bytes) 8 long, two, none) refl

pub report_whole : (bytes : List ℕ) (size : ℕ) → 8 ≤ length bytes → version bytes ≡ 2 → is_report bytes ≡ true → packet_size bytes ≡ size → size ≤ length bytes → report_room bytes ≤ size → report_size bytes ≡ Ok size
unfolding report_size
report_whole bytes size long two is told room blocks =
    rw (le-ltb (length bytes) 8 long, two, is, told, le-ltb (length bytes) size room, le-ltb size (report_room bytes) blocks) refl

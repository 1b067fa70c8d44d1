-- Packets one after another: how many are looked at makes no difference, if there are no more.
use Rattle.std.proofs.Common.{◌≡◌, ℕ, zero, suc, ◌<◌, ◌≤◌, List, length, drop, Option, Some, None, Result, Ok, Err, refl, arith, ap, if◌then◌else◌, ◌==◌, not, nat_lt}
use Rattle.std.proofs.lemmas.Bool.{ne_eqb}
use Rattle.std.proofs.lemmas.List.{length-drop}
use Rattle.rtcp_reports.specs.Rtcp.{packet_size, whole_packet, refusal_behind, packets_refusal, refusal_in}
use Rattle.link_model.specs.Packets.{version}
use Rattle.rtcp_reports.specs.declared.refusal.RtcpRefusal.{RtcpRefusal}
use Rattle.rtcp_reports.specs.declared.refusal.RtcpRefusal.TheVariants.{Length, Version}
use Rattle.rtcp_reports.proofs.Testing.{passing}

pub size_least : (bytes : List ℕ) (size : ℕ) → whole_packet bytes ≡ Ok size → 4 ≤ size
unfolding whole_packet
size_least bytes size is =
    let long = passing (nat_lt (length bytes) 4) _ Length size is in
    let two = passing (not (version bytes == 2)) _ Version size long.1 in
    let whole = passing (nat_lt (length bytes) (packet_size bytes)) _ Length size two.1 in
    let same : packet_size bytes ≡ size = let e = whole.1 in cc in
    omega (arith, same)

same_behind : (x : Result ℕ RtcpRefusal) (f g : ℕ → Option RtcpRefusal) → ((size : ℕ) → x ≡ Ok size → f size ≡ g size) → refusal_behind x f ≡ refusal_behind x g
same_behind (Ok size) f g same = same size refl
same_behind (Err refusal) f g same = refl

same_refusal : (n m : ℕ) (bytes : List ℕ) → length bytes ≤ n → length bytes ≤ m → packets_refusal n bytes ≡ packets_refusal m bytes
unfolding packets_refusal
same_refusal zero zero bytes a b = refl
same_refusal zero (suc m) bytes a b = let e : length bytes ≡ 0 = omega arith in rw e refl
same_refusal (suc n) zero bytes a b = let e : length bytes ≡ 0 = omega arith in rw e refl
same_refusal (suc n) (suc m) bytes a b =
    ap (λ (o : Option RtcpRefusal). if length bytes == 0 then None else o)
    (same_behind (whole_packet bytes) (λ size. packets_refusal n (drop size bytes)) (λ size. packets_refusal m (drop size bytes))
    (λ size is. same_refusal n m (drop size bytes) (omega (arith, length-drop size bytes, size_least bytes size is)) (omega (arith, length-drop size bytes, size_least bytes size is))))

ended : (n : ℕ) (bytes : List ℕ) → length bytes ≡ 0 → packets_refusal n bytes ≡ None
unfolding packets_refusal
ended zero bytes none = refl
ended (suc n) bytes none = rw none refl

stopped : (n : ℕ) (bytes : List ℕ) (refusal : RtcpRefusal) → 0 < length bytes → length bytes ≤ n → whole_packet bytes ≡ Err refusal → packets_refusal n bytes ≡ Some refusal
unfolding packets_refusal
stopped zero bytes refusal some most is = absurd (omega arith)
stopped (suc n) bytes refusal some most is = let e = ne_eqb (length bytes) 0 (λ none. omega arith) in rw (e, is) refl

stepped : (n : ℕ) (bytes : List ℕ) (size : ℕ) → 0 < length bytes → length bytes ≤ n → whole_packet bytes ≡ Ok size → packets_refusal (length (drop size bytes)) (drop size bytes) ≡ packets_refusal n bytes
unfolding packets_refusal
stepped zero bytes size some most is = absurd (omega arith)
stepped (suc n) bytes size some most is =
    let e = ne_eqb (length bytes) 0 (λ none. omega arith) in
    let fits : length (drop size bytes) ≤ n = omega (arith, length-drop size bytes, size_least bytes size is) in
    rw (e, is) (same_refusal (length (drop size bytes)) n (drop size bytes) (omega arith) fits)

pub no_packets : (bytes : List ℕ) → length bytes ≡ 0 → refusal_in bytes ≡ None
no_packets bytes none = ended (length bytes) bytes none

pub a_refusal : (bytes : List ℕ) (refusal : RtcpRefusal) → 0 < length bytes → whole_packet bytes ≡ Err refusal → refusal_in bytes ≡ Some refusal
a_refusal bytes refusal some is = stopped (length bytes) bytes refusal some (omega arith) is

pub more_packets : (bytes : List ℕ) (size : ℕ) → 0 < length bytes → whole_packet bytes ≡ Ok size → refusal_in (drop size bytes) ≡ refusal_in bytes
more_packets bytes size some is = stepped (length bytes) bytes size some (omega arith) is

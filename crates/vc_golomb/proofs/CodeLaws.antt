-- No code begins another, and what is written is read back.
use Rattle.std.proofs.Common.{◌≡◌, ℕ, ◌≤◌, ◌++◌, ℤ, Bool, List, [], Ok, sym, ap, ◌∙◌, append-nil}
use Rattle.std.proofs.lemmas.Option.{same_Some}
use Rattle.vc_types.specs.Codes.{uint_bits, sint_bits, uint_at}
use Rattle.vc_types.specs.Bounded.{bounded_sint}
use Rattle.vc_types.specs.Fields.{number_from, number_up_to}
use Rattle.vc_types.proofs.Codes.{uint_at-uint_bits}
use Rattle.vc_types.proofs.BoundedCodes.{bounded_sint-sint_bits, bounded_sint-begins}
use Rattle.vc_golomb.specs.declared.uint.UintRefusal.TheVariants.{End, TooLarge}
use Rattle.vc_golomb.proofs.Renamed.{small_is}

pub one_unsigned : (v w : ℕ) (rest : List Bool) → uint_bits w ≡ uint_bits v ++ rest → v ≡ w
one_unsigned v w rest same =
    let alone = ap uint_at (append-nil (uint_bits w)) in
    let read_w = sym alone ∙ uint_at-uint_bits w [] in
    let read_v = ap uint_at same ∙ uint_at-uint_bits v rest in
    ap (λ (x : ℕ × List Bool). x.0) (same_Some _ _ (sym read_v ∙ read_w))

pub one_signed : (v w : ℤ) (rest : List Bool) → sint_bits w ≡ sint_bits v ++ rest → v ≡ w
one_signed v w rest same =
    let read_w = ap bounded_sint (sym (append-nil (sint_bits w))) ∙ bounded_sint-sint_bits w [] in
    let read_v = ap bounded_sint same ∙ bounded_sint-sint_bits v rest in
    ap (λ (x : ℤ × List Bool). x.0) (sym read_v ∙ read_w)

pub ruleset apart = (one_unsigned, one_signed)

pub unsigned_back : (v max : ℕ) (rest : List Bool) → v ≤ max → number_up_to End TooLarge max (uint_bits v ++ rest) ≡ Ok (v, rest)
unfolding number_up_to
unsigned_back v max rest small = ap (number_from End TooLarge max) (uint_at-uint_bits v rest) ∙ small_is End TooLarge max (v, rest) small

pub ruleset back = (unsigned_back, bounded_sint-sint_bits, bounded_sint-begins)

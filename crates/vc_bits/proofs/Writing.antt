-- A byte that is made bit by bit.
use Rattle.std.proofs.Common.{◌≡◌, ℕ, ◌+◌, ◌-◌, ◌*◌, ◌<◌, ◌≤◌, Bool, List, [], ◌∷◌, ◌++◌, sym, ap, ◌∙◌, arith, append_assoc, length-drop, replicate}
use Rattle.std.proofs.lemmas.List.{drop-drop, drop-append-le}
use Rattle.std.proofs.lemmas.Grind.{replicate_next}
use Rattle.vc_types.specs.Bits.{digit_of}
use Rattle.vc_types.proofs.Bits.{byte_bits-push, length-byte_bits}
use Rattle.vc_bits.specs.Inside.{low_bits}

-- one more bit in a byte that isn't whole
pub low_bits-push : (count byte : ℕ) (bit : Bool) → count < 8 → low_bits (count + 1) (2 * byte + digit_of bit) ≡ low_bits count byte ++ bit ∷ []
low_bits-push count byte bit small =
    grind (arith, length-drop {A = Bool}, length-byte_bits, byte_bits-push, drop-append-le {A = Bool}, drop-drop {A = Bool})

-- a byte that is being filled up
pub fill_more : (from count byte next first : ℕ) (bit : Bool) → from ≤ count → count < 8 → next ≡ 2 * byte + digit_of bit
    → low_bits count byte ≡ low_bits from first ++ replicate (count - from) bit → low_bits (count + 1) next ≡ low_bits from first ++ replicate (count + 1 - from) bit
fill_more from count byte next first bit le small is so_far =
    let one : count + 1 - from ≡ (count - from) + 1 = omega arith in
    rw is (low_bits-push count byte bit small ∙ ap (λ (bits : List Bool). bits ++ bit ∷ []) so_far ∙ append_assoc (low_bits from first) (replicate (count - from) bit) (bit ∷ [])
    ∙ ap (λ (bits : List Bool). low_bits from first ++ bits) (sym (replicate_next (count - from) bit)) ∙ ap (λ (n : ℕ). low_bits from first ++ replicate n bit) (sym one))

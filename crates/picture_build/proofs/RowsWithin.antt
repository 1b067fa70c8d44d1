-- Rectangles that lie in a component's cells, and cells that are read one by one.
use Rattle.std.proofs.Common.{◌≡◌, ℕ, ◌+◌, ◌*◌, ◌<◌, ◌≤◌, ◌^◌, List, [], ◌∷◌, ◌++◌, length, take, get_or, ℤ, pos, w64, FitsSigned, to_z, of_z, arith, ap, sym, ◌∙◌}
use Rattle.std.proofs.Math.Nat.{mul-le-mul_right}
use Rattle.std.proofs.lemmas.Int.{ints, to_z-of_z}
use Rattle.std.proofs.lemmas.List.{take_more}
use mir.Syntax.{w128}

pub rows_within : (bottom stride height width before now : ℕ) → bottom ≤ height → stride ≡ width → before ≡ height * width → now ≡ before → bottom * stride ≤ now
rows_within bottom stride height width before now below same whole kept =
    let more = mul-le-mul_right width below in
    let own = ap (λ (n : ℕ). bottom * n) same in
    omega (arith, more, own)

pub few_cells : (x y width height : ℕ) → (x + width ≤ 8192) × (y + height ≤ 8192) → width * height ≤ 2 ^ 26
few_cells x y width height range =
    let narrow : width ≤ 8192 = omega arith in
    let more = mul-le-mul_right height narrow in
    omega (arith, more)

-- one number more of a list
pub pushed_more : (xs now new : List ℤ) (i : ℕ) (z : ℤ) → i < length xs → now ≡ take i xs → new ≡ now ++ z ∷ [] → z ≡ get_or xs i (pos 0) → new ≡ take (i + 1) xs
pushed_more xs now new i z h was is same =
    is
    ∙ ap (λ (y : ℤ). now ++ y ∷ []) same
    ∙ ap (λ (l : List ℤ). l ++ get_or xs i (pos 0) ∷ []) was
    ∙ sym (take_more xs i (pos 0) h)

-- a number of 64 bits, widened
pub widened_cast : (z got wide : ℤ) → FitsSigned w64 got → wide ≡ to_z w64 (of_z w64 got) → got ≡ z → to_z w128 (of_z w128 wide) ≡ z
widened_cast z got wide fits is same =
    let own : wide ≡ got = is ∙ to_z-of_z w64 got fits in
    ap (λ (y : ℤ). to_z w128 (of_z w128 y)) own ∙ to_z-of_z w128 got (omega (arith, ints, fits)) ∙ same

-- Numbers that are pushed one by one, each in another width than it was read in.
use Rattle.std.proofs.Common.{◌≡◌, ℕ, ◌+◌, ◌<◌, ◌^◌, List, [], ◌∷◌, ◌++◌, length, take, get_or, ℤ, pos, unsigned_abs, w32, w64, FitsSigned, to_z, of_z, append_assoc, arith, ap, sym, subst, ◌∙◌}
use Rattle.std.proofs.lemmas.Int.{fits_signed_from_abs, ints, to_z-of_z}
use Rattle.std.proofs.lemmas.List.{take_more}
use mir.Syntax.{w128}

-- one number more of a list, behind others
pub pushed_more : (before xs now new : List ℤ) (i : ℕ) (z : ℤ) → i < length xs → now ≡ before ++ take i xs → new ≡ now ++ z ∷ [] → z ≡ get_or xs i (pos 0) → new ≡ before ++ take (i + 1) xs
pushed_more before xs now new i z h was is same =
    is
    ∙ ap (λ (y : ℤ). now ++ y ∷ []) same
    ∙ ap (λ (l : List ℤ). l ++ get_or xs i (pos 0) ∷ []) was
    ∙ append_assoc before (take i xs) (get_or xs i (pos 0) ∷ [])
    ∙ ap (λ (l : List ℤ). before ++ l) (sym (take_more xs i (pos 0) h))

-- a small number of 128 bits
module _ (z : ℤ) (small : unsigned_abs z < 2 ^ 60) where
  read_wide : to_z w128 (of_z w128 z) ≡ z
  read_wide = to_z-of_z w128 z (fits_signed_from_abs w128 z (omega arith))

  pub small_fits : FitsSigned w64 (to_z w128 (of_z w128 z))
  small_fits = subst (FitsSigned w64) (sym read_wide) (fits_signed_from_abs w64 z (omega arith))

  pub small_cast : to_z w64 (of_z w64 (to_z w128 (of_z w128 z))) ≡ z
  small_cast = to_z-of_z w64 (to_z w128 (of_z w128 z)) small_fits ∙ read_wide

-- a number of 32 bits
pub widened_cast : (z wide : ℤ) → FitsSigned w32 z → wide ≡ to_z w32 (of_z w32 z) → to_z w64 (of_z w64 wide) ≡ z
widened_cast z wide fits is =
    let same : wide ≡ z = is ∙ to_z-of_z w32 z fits in
    ap (λ (y : ℤ). to_z w64 (of_z w64 y)) same ∙ to_z-of_z w64 z (omega (arith, fits))

pub small_number : (z : ℤ) → FitsSigned w32 z → unsigned_abs z < 2 ^ 60
small_number z fits = grind (arith, ints)

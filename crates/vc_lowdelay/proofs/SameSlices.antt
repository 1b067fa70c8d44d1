-- A slice by other names of its plan, its number and its bytes.
use Rattle.std.proofs.Common.{◌≡◌, ℕ, ℤ, List, subst}
use Rattle.vc_types.specs.declared.video.Component.{Component}
use Rattle.vc_types.specs.Slices.{Coefficients}
use Rattle.vc_types.specs.TransformParameters.{Parameters}
use Rattle.picture_build.specs.Kept.{FillsSlice}
use Rattle.vc_lowdelay.specs.Grown.{IsGrownSlice, IsSound, Lowest}
use Rattle.vc_lowdelay.specs.LowDelay.{LowSlice, low_coefficients}
use Rattle.vc_lowdelay.specs.Placed.{HasLargeIn}

module _ (p q : Parameters) (m n : ℕ) (s t : LowSlice) (plan : p ≡ q) (number : m ≡ n) (slice : s ≡ t) where
  pub same_slice : (lowest : Lowest) (made : Coefficients) → IsGrownSlice p m s lowest made → IsGrownSlice q n t lowest made
  same_slice lowest made is =
      subst (λ (x : LowSlice). IsGrownSlice q n x lowest made) slice
      (subst (λ (k : ℕ). IsGrownSlice q k s lowest made) number
      (subst (λ (r : Parameters). IsGrownSlice r m s lowest made) plan is))

  pub same_large : HasLargeIn p m s → HasLargeIn q n t
  same_large has =
      subst (λ (x : LowSlice). HasLargeIn q n x) slice
      (subst (λ (k : ℕ). HasLargeIn q k s) number
      (subst (λ (r : Parameters). HasLargeIn r m s) plan has))

  pub same_filled : (c : Component) (old new : List ℤ) → FillsSlice p c m (low_coefficients p m s c) old new → FillsSlice q c n (low_coefficients q n t c) old new
  same_filled c old new fills =
      subst (λ (x : LowSlice). FillsSlice q c n (low_coefficients q n x c) old new) slice
      (subst (λ (k : ℕ). FillsSlice q c k (low_coefficients q k s c) old new) number
      (subst (λ (r : Parameters). FillsSlice r c m (low_coefficients r m s c) old new) plan fills))

  pub same_sound : IsSound p m s → IsSound q n t
  same_sound sound =
      subst (λ (x : LowSlice). IsSound q n x) slice
      (subst (λ (k : ℕ). IsSound q k s) number
      (subst (λ (r : Parameters). IsSound r m s) plan sound))

-- What the coefficients of a slice are.
use Rattle.std.specs.Prelude.{◌≡◌, ℕ, false, length}
use Rattle.std.specs.List.{list_any}
use Rattle.vc_types.specs.declared.video.Component.{Component}
use Rattle.vc_types.specs.Slices.{Coefficients, coefficients_of, is_large}
use Rattle.vc_types.specs.Subbands.{slice_coefficient_count}
use Rattle.vc_types.specs.TransformParameters.{Parameters}

-- of each component as many as slice number n has, and none is large: what a decoded slice has, and
-- what can be encoded
pub record AreSliceCoefficients (p : Parameters) (n : ℕ) (s : Coefficients) : Type 0 where
  pub count : (c : Component) → length (coefficients_of s c) ≡ slice_coefficient_count p c n
  pub small : (c : Component) → list_any is_large (coefficients_of s c) ≡ false

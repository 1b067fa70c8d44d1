use Rattle.std.proofs.Common.{◌≡◌, ◌<◌, ℕ}
use Rattle.link_model.specs.SendingPictures.{number_at_place}
use Rattle.vc_types.specs.Lifting.{line_of}
use Rattle.vc_types.specs.Subbands.{coefficient_place, padded_width}
use Rattle.vc_types.specs.TransformParameters.{parameters_of}
use Rattle.vc_types.proofs.SliceRectangles.{coefficients_before}
use Rattle.vc_wave.specs.Layout.{nested_in}
use Rattle.picture_encode.proofs.gathering.copy_slice.Given as goal

abbrev pub invariant-loop-b : goal.invariant-loop-b
invariant-loop-b l = record {
  from : l.from ≡ coefficients_before (parameters_of l.parts.plan) l.c l.parts.slice l.b;
  copied : (i : ℕ) → i < l.from → line_of l.coeffs i ≡ number_at_place (nested_in (parameters_of l.parts.plan) l.c (padded_width (parameters_of l.parts.plan) l.c) l.cells) (coefficient_place (parameters_of l.parts.plan) l.c l.parts.slice i);
}

use Rattle.std.proofs.Common.{◌≡◌, ◌++◌, false}
use Rattle.std.specs.List.{list_any}
use Rattle.vc_types.specs.Slices.{is_large, block_coefficients}
use Rattle.vc_types.specs.TransformParameters.{parameters_of}
use Rattle.vc_slice.specs.Inside.{coefficients_by}
use Rattle.vc_slice.proofs.BlockCoefficients.{quantisers_from}
use Rattle.vc_slice.proofs.component.read_component.Given as goal

abbrev pub invariant-loop-b : goal.invariant-loop-b
invariant-loop-b l = record {
  read : l.coeffs.items ++ coefficients_by (quantisers_from (parameters_of l.bands.parts.now.plan) l.c l.bands.parts.now.slice l.bands.index l.b) l.bits ≡ l.initial.coeffs.items ++ block_coefficients (parameters_of l.bands.parts.now.plan) l.c l.bands.parts.now.slice l.bands.index l.block;
  sound : list_any is_large l.coeffs.items ≡ false;
}

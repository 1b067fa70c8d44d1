use Rattle.std.proofs.Common.{◌≡◌, ◌-◌, ◌<◌, ◌≤◌, ℕ, length}
use Rattle.std.specs.Prelude.{slice_index_or}
use Rattle.vc_types.specs.Lifting.{line_of}
use Rattle.vc_types.specs.OfPlan.{band_count}
use Rattle.vc_types.specs.Quantisation.{quantised}
use Rattle.vc_types.specs.Slices.{quantisers}
use Rattle.vc_types.specs.TransformParameters.{parameters_of}
use Rattle.vc_types.proofs.SliceRectangles.{coefficients_before}
use Rattle.vc_slice.proofs.narrow_codes.quantise.Given as goal

abbrev pub invariant-loop-b : goal.invariant-loop-b
invariant-loop-b l = record {
  order : l.from ≤ l.to;
  to : l.to ≡ coefficients_before (parameters_of l.bands.parts.now.plan) l.c l.bands.parts.now.slice l.b;
  length : length l.numbers ≡ length l.coefficients;
  alike : (i : ℕ) → l.from ≤ i → i < l.to → (l.b < band_count l.bands.parts.now.plan)
      × (slice_index_or (quantisers (parameters_of l.bands.parts.now.plan) l.c l.bands.parts.now.slice l.bands.index) i 0 ≡ l.bands.index - slice_index_or l.bands.parts.now.plan.matrix l.b 0);
  done : (i : ℕ) → i < l.from → line_of l.numbers i ≡ quantised (line_of l.coefficients i) (slice_index_or (quantisers (parameters_of l.bands.parts.now.plan) l.c l.bands.parts.now.slice l.bands.index) i 0);
}

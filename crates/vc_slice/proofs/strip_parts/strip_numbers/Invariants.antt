use Rattle.std.proofs.Common.{◌≡◌, ◌<◌, ◌^◌, ℕ, length, unsigned_abs}
use Rattle.vc_types.specs.TransformParameters.{parameters_of}
use Rattle.vc_types.proofs.SliceRectangles.{coefficients_before}
use Rattle.vc_geometry.proofs.RunWalk.{run_before}
use Rattle.vc_slice.specs.Bands.{coefficient_count, numbered_in}
use Rattle.vc_slice.specs.RunSlices.{place_in_strip}
use Rattle.vc_slice.proofs.FilledParts.{FirstStand, OthersStay}
use Rattle.vc_slice.proofs.strip_parts.strip_numbers.Given as goal

abbrev pub invariant-loop-b : goal.invariant-loop-b
invariant-loop-b l = record {
  from : l.from ≡ coefficients_before (parameters_of l.bands.parts.now.plan) l.c l.bands.parts.now.slice l.b;
  base : l.base ≡ run_before (parameters_of l.run.plan) l.c l.run.first l.run.count l.b;
  on : FirstStand (coefficient_count l.bands.parts.now l.c) (place_in_strip l.run l.bands.parts.now l.c) (numbered_in l.bands l.c l.numbers) l.from l.strip;
  narrow : (i : ℕ) → i < l.from → unsigned_abs (numbered_in l.bands l.c l.numbers i) < 2 ^ 29;
  off : OthersStay (coefficient_count l.bands.parts.now l.c) (place_in_strip l.run l.bands.parts.now l.c) l.initial.strip l.strip;
  length : length l.strip ≡ length l.initial.strip;
}

use Rattle.std.proofs.Common.{◌≡◌, length}
use Rattle.vc_types.specs.TransformParameters.{parameters_of}
use Rattle.picture_build.specs.PictureCoefficients.{ArePictureCoefficients}
use Rattle.worked_tests.proofs.building.slices.Given as goal

abbrev pub invariant-loop-i : goal.invariant-loop-i
invariant-loop-i l = record {
  count : length l.slices.items ≡ l.i;
  whole : ArePictureCoefficients (parameters_of l.plan) l.slices.items;
}

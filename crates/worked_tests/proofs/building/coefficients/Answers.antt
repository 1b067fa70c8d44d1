use Rattle.std.proofs.Common.{sym, ◌∙◌}
use Rattle.vc_types.specs.TransformParameters.{parameters_of}
use Rattle.picture_build.proofs.WholeSlices.{whole_slice}
use Rattle.worked_tests.proofs.building.coefficients.Goals as goal

pub returns-in-Ok : goal.returns-in-Ok
returns-in-Ok c = whole_slice (parameters_of c.args.done.job.plan) c.args.done.job.index c.in-Ok.coeffs c.args.done.job.bytes (sym c.args.done.decoded ∙ c.in-Ok.is)

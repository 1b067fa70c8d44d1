use Rattle.std.proofs.Common.{arith, ◌∙◌, sym}
use Rattle.vc_types.specs.TransformParameters.{parameters_of}
use Rattle.vc_types.proofs.SliceRectangles.{coefficients_before-none, coefficients_before-more, coefficients_before-all}
use Rattle.vc_slice.proofs.bands.SliceParts.count.Goals as goal

pub loop-b-init : goal.loop-b-init
loop-b-init c = record { sum = sym (coefficients_before-none (parameters_of c.args.self.now.plan) c.args.c c.args.self.now.slice); bound = omega arith }

pub loop-b-preserved : goal.loop-b-preserved
loop-b-preserved c = omega (arith, coefficients_before-more)

pub returns : goal.returns
returns c = c.loop-b.invariant.sum ∙ coefficients_before-all (parameters_of c.args.self.now.plan) c.args.c c.args.self.now.slice c.loop-b.b (omega arith)

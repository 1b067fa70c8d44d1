use Rattle.std.proofs.Common.{arith, ◌∙◌, sym}
use Rattle.std.proofs.lemmas.Nat.{mul-le}
use Rattle.vc_types.specs.TransformParameters.{parameters_of}
use Rattle.vc_types.proofs.SliceRectangles.{coefficients_before-none, coefficients_before-more, coefficients_before-all}
use Rattle.vc_geometry.proofs.slices.slice_len.Goals as goal

pub loop-b-init : goal.loop-b-init
loop-b-init c = record { sum = sym (coefficients_before-none (parameters_of c.args.plan.now) c.args.c c.args.slice); bound = omega arith }

pub loop-b-preserved : goal.loop-b-preserved
loop-b-preserved c = grind (arith, coefficients_before-more, mul-le)

pub returns-clause-value : goal.returns-clause-value
returns-clause-value c = c.loop-b.invariant.sum ∙ coefficients_before-all (parameters_of c.args.plan.now) c.args.c c.args.slice c.loop-b.b (omega arith)

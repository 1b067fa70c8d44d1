use Rattle.vc_types.specs.TransformParameters.{parameters_of}
use Rattle.vc_slice.proofs.ColourParts.{of_run_colours}
use Rattle.vc_slice.proofs.run_parts.rects_of.Goals as goal

pub returns-clause-colours : goal.returns-clause-colours
returns-clause-colours c = λ is. of_run_colours (parameters_of c.args.plan.now) c.args.c c.args.first c.args.count _ c.run_rects.ensures is

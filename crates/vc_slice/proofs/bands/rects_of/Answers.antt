use Rattle.vc_types.specs.TransformParameters.{parameters_of}
use Rattle.vc_slice.proofs.ColourParts.{of_colours}
use Rattle.vc_slice.proofs.bands.rects_of.Goals as goal

pub returns-clause-colours : goal.returns-clause-colours
returns-clause-colours c = λ is. of_colours (parameters_of c.args.plan.now) c.args.c c.args.slice _ c.slice_rects.ensures is

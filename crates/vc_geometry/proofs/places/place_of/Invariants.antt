use Rattle.vc_types.specs.TransformParameters.{parameters_of}
use Rattle.vc_types.proofs.SliceRectangles.{IsLeft}
use Rattle.vc_geometry.proofs.places.place_of.Given as goal

abbrev pub invariant-loop-b : goal.invariant-loop-b
invariant-loop-b l = IsLeft (parameters_of l.plan) l.c l.slice l.i l.b l.left

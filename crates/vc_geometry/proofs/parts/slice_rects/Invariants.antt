use Rattle.std.specs.Prelude.{◌+◌, ◌*◌}
use Rattle.vc_types.specs.TransformParameters.{parameters_of}
use Rattle.vc_geometry.specs.Rectangles.{ArePartsOf}
use Rattle.vc_geometry.proofs.parts.slice_rects.Given as goal

abbrev pub invariant-loop-level : goal.invariant-loop-level
invariant-loop-level l = ArePartsOf (parameters_of l.plan) l.fn.c l.slice (1 + l.level) l.rects

abbrev pub invariant-loop-level-2 : goal.invariant-loop-level-2
invariant-loop-level-2 l = ArePartsOf (parameters_of l.plan) l.fn.c l.slice (1 + l.across + 3 * l.level) l.rects

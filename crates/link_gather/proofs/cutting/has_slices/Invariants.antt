use Rattle.std.proofs.Common.{◌≡◌}
use Rattle.std.specs.Prelude.{is_ok}
use Rattle.link_model.specs.Kept.{next_slices}
use Rattle.vc_types.specs.TransformParameters.{parameters_of}
use Rattle.link_gather.proofs.cutting.has_slices.Given as goal

-- the slices that are left begin what is left
abbrev pub invariant-loop-left : goal.invariant-loop-left
invariant-loop-left l = is_ok (next_slices (parameters_of l.plan) l.left l.rest) ≡ is_ok (next_slices (parameters_of l.plan) l.fn.count l.fn.bytes)

abbrev pub decreases-loop-left : goal.decreases-loop-left
decreases-loop-left l = l.left

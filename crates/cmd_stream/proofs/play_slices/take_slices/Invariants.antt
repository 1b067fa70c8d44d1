use Rattle.std.proofs.Common.{◌≡◌, ◌-◌, List, length}
use Rattle.vc_types.specs.Pictures.{slices_from}
use Rattle.vc_types.specs.Slices.{Coefficients}
use Rattle.vc_types.specs.Subbands.{slice_count}
use Rattle.vc_types.specs.TransformParameters.{parameters_of}
use Rattle.cmd_stream.specs.Slices.{slices_behind, HasFirst}
use Rattle.cmd_stream.proofs.play_slices.take_slices.Given as goal

abbrev pub invariant-loop-index : goal.invariant-loop-index
invariant-loop-index l =
    (first : List Coefficients)
    × (slices_from (parameters_of l.fn.head.plan) 0 (slice_count (parameters_of l.fn.head.plan)) l.fn.bytes ≡ slices_behind first (slices_from (parameters_of l.fn.head.plan) l.index (slice_count (parameters_of l.fn.head.plan) - l.index) l.rest))
    × (length first ≡ l.index)
    × HasFirst (parameters_of l.fn.head.plan) first l.builder

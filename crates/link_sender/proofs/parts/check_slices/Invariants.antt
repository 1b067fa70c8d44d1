use Rattle.std.proofs.Common.{◌≡◌, ◌-◌, [], List, ℕ, Ok}
use Rattle.link_model.specs.Kept.{next_slices}
use Rattle.stream_model.specs.Packing.{first_large_slice, slices_in}
use Rattle.vc_types.specs.Subbands.{slice_count}
use Rattle.vc_types.specs.TransformParameters.{parameters_of}
use Rattle.link_sender.proofs.parts.check_slices.Given as goal

-- the slices that are left have the first that is too large
abbrev pub invariant-loop-index : goal.invariant-loop-index
invariant-loop-index l =
    (left : List (List ℕ))
    × (next_slices (parameters_of l.plan) (slice_count (parameters_of l.plan) - l.index) l.rest ≡ Ok (left, []))
    × (first_large_slice l.room l.index left ≡ first_large_slice l.room 0 (slices_in (parameters_of l.plan) l.fn.slices))

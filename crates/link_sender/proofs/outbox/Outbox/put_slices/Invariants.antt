use Rattle.std.proofs.Common.{◌≡◌, ◌-◌, ◌++◌, [], List, ℕ, None, Ok}
use Rattle.link_model.specs.Kept.{next_slices}
use Rattle.stream_model.specs.Packing.{first_large_slice, slices_in, slices_room}
use Rattle.link_sender.specs.Runs.{EndsRun, PacksSlices}
use Rattle.vc_types.specs.SenderSettings.{packing_view}
use Rattle.vc_types.specs.Subbands.{slice_count}
use Rattle.vc_types.specs.TransformParameters.{parameters_of}
use Rattle.link_sender.proofs.outbox.Outbox.put_slices.Given as goal

-- the slices that were packed, and those that are left
abbrev pub invariant-loop-slice : goal.invariant-loop-slice
invariant-loop-slice l =
    (packed : List (List ℕ)) × (left : List (List ℕ))
    × (slices_in (parameters_of l.p.plan.now) l.fn.slices ≡ packed ++ left)
    × (next_slices (parameters_of l.p.plan.now) (slice_count (parameters_of l.p.plan.now) - l._slice) l.rest ≡ Ok (left, []))
    × (first_large_slice (slices_room (packing_view l.p.settings)) l._slice left ≡ None)
    × EndsRun (packing_view l.p.settings) l._slice l.run
    × PacksSlices l.p packed l.fn.self l.self l.run

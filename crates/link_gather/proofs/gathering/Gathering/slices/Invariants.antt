use Rattle.std.proofs.Common.{◌≡◌, ◌++◌, ◌-◌, false, map}
use Rattle.std.specs.Prelude.{filter_map}
use Rattle.std.specs.List.{range_with_len}
use Rattle.link_gather.specs.NewSlices.{new_in, slice_at}
use Rattle.link_gather.specs.Views.{new_slice_of}
use Rattle.link_gather.proofs.gathering.Gathering.slices.Given as goal

-- those so far, and those of the other slots
abbrev pub invariant-loop-index : goal.invariant-loop-index
invariant-loop-index l =
    map new_slice_of l.slices.items
    ++ filter_map (slice_at l.self) (range_with_len l.index (l.index-end - l.index))
    ≡ new_in (λ i. false) l.self

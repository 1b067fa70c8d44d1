use Rattle.std.proofs.Common.{◌++◌, ◌+◌, ◌-◌, ◌*◌, List, map, ap, ◌∙◌}
use Rattle.std.specs.Prelude.{filter_map}
use Rattle.std.specs.List.{range_with_len}
use Rattle.link_gather.specs.NewSlices.{PictureSlice, slice_at}
use Rattle.link_gather.specs.Views.{new_slice_of}
use Rattle.link_gather.proofs.NewLaws.{found_more}
use Rattle.link_gather.proofs.gathering.Gathering.slices.Goals as goal

pub loop-index-preserved : goal.loop-index-preserved
loop-index-preserved c =
    let f = slice_at c.args.self.now in
    let i = c.loop-index.index in
    let n = c.self.inside.plan.slices_x * c.self.inside.plan.slices_y in
    ap (λ (l : List PictureSlice). l ++ filter_map f (range_with_len (i + 1) (n - (i + 1))))
    c.in_ok-push_slice.ensures
    ∙ found_more f (map new_slice_of c.loop-index.slices.items) i n c.loop-index-test.true
    ∙ c.loop-index.invariant

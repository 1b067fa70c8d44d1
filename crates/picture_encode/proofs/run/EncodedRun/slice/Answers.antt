use Rattle.std.proofs.Common.{◌-◌, List, [], drop, get_or, length, take, sym, ap, ◌∙◌, arith}
use Rattle.picture_encode.specs.IndexedSlices.{IndexedSlice, start_in_run}
use Rattle.picture_encode.specs.Encoded.{bytes_of_slices}
use Rattle.picture_encode.specs.declared.run.SliceEnd.{SliceEnd}
use Rattle.picture_encode.proofs.CodedRuns.{how_many, slice_is, slice_within}
use Rattle.picture_encode.proofs.run.EncodedRun.slice.Goals as goal

pub start_of-start-requires : goal.start_of-start-requires
start_of-start-requires c =
    let run = c.self.inside in
    let many = ap length (sym c.self.view_is) ∙ how_many 0 run.ends.items run.bytes.items in
    let same = ap length c.deref.ensures.value in
    omega (arith, c.requires, many, same)

pub index-requires : goal.index-requires
index-requires c =
    let run = c.self.inside in
    let many = ap length (sym c.self.view_is) ∙ how_many 0 run.ends.items run.bytes.items in
    omega (arith, c.requires, many, run.ends.ok.0)

pub slice_bounds-result-count : goal.slice_bounds-result-count
slice_bounds-result-count c =
    let run = c.self.inside in
    let many = ap length (sym c.self.view_is) ∙ how_many 0 run.ends.items run.bytes.items in
    let within = slice_within 0 run.ends.items (length run.bytes.items) c.args.number c.index.result.now c.self.invariant (omega (arith, c.requires, many)) in
    let end = ap (λ (e : SliceEnd). e.end) c.index.ensures in
    let start = c.start_of-start.ensures ∙ ap (λ (l : List SliceEnd). start_in_run 0 l c.args.number) c.deref.ensures.value in
    omega (arith, within.0, end, start)

pub slice_bounds-result-start : goal.slice_bounds-result-start
slice_bounds-result-start c =
    let run = c.self.inside in
    let many = ap length (sym c.self.view_is) ∙ how_many 0 run.ends.items run.bytes.items in
    let within = slice_within 0 run.ends.items (length run.bytes.items) c.args.number c.index.result.now c.self.invariant (omega (arith, c.requires, many)) in
    let end = ap (λ (e : SliceEnd). e.end) c.index.ensures in
    let start = c.start_of-start.ensures ∙ ap (λ (l : List SliceEnd). start_in_run 0 l c.args.number) c.deref.ensures.value in
    omega (arith, within.0, end, start)

pub slice_bounds-result-end : goal.slice_bounds-result-end
slice_bounds-result-end c =
    let run = c.self.inside in
    let many = ap length (sym c.self.view_is) ∙ how_many 0 run.ends.items run.bytes.items in
    let within = slice_within 0 run.ends.items (length run.bytes.items) c.args.number c.index.result.now c.self.invariant (omega (arith, c.requires, many)) in
    let end = ap (λ (e : SliceEnd). e.end) c.index.ensures in
    let same = ap length c.deref-2.ensures.value in
    omega (arith, within.1, end, same)

pub returns : goal.returns
returns c =
    let run = c.self.inside in
    let i = c.args.number in
    let many = ap length (sym c.self.view_is) ∙ how_many 0 run.ends.items run.bytes.items in
    let end = ap (λ (e : SliceEnd). e.end) (sym c.index.ensures) in
    let start = ap (λ (l : List SliceEnd). start_in_run 0 l i) (sym c.deref.ensures.value) ∙ sym c.start_of-start.ensures in
    let bytes = sym c.deref-2.ensures.value in
    sym (ap (λ (l : List IndexedSlice). get_or (bytes_of_slices l) i []) (sym c.self.view_is)
    ∙ slice_is 0 run.ends.items run.bytes.items i c.index.result.now (omega (arith, c.requires, many))
    ∙ (λ j. take (end j - start j) (drop (start j) (bytes j))))

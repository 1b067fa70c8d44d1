use Rattle.std.proofs.Common.{◌≡◌, ℕ, ◌+◌, ◌-◌, ◌*◌, ◌^◌, ◌<◌, arith, ap, ◌∙◌}
use Rattle.vc_types.specs.Lifting.{Line, line_of}
use Rattle.vc_types.specs.Transforms.{doubled}
use Rattle.vc_types.specs.Wavelets.{is_shifted}
use Rattle.vc_wave.specs.Remade.{halves_apart, on_samples}
use Rattle.vc_wave.specs.Samples.{padded_sample}
use Rattle.vc_wave.proofs.CarriedBounds.{level_reached}
use Rattle.vc_wave.proofs.Fills.{row_centred, row_inside, padded_within}
use Rattle.vc_wave.proofs.RowHalves.{analysis_narrow, row_parted, row_beside}
use Rattle.vc_wave.proofs.plane_rows.part_plane_row.Goals as goal

pub analyse_narrow-requires-clause-narrow : goal.analyse_narrow-requires-clause-narrow
analyse_narrow-requires-clause-narrow c =
    let s = c.args.source.now in
    let l = s.level in
    let p = s.plane.now in
    let most = 2 ^ (s.depth - 1) in
    let b = level_reached l.wavelets.down most s.fits in
    let inside = row_inside p c.samples-all.result.now c.width.result c.height.result c.args.y c.min.result
    c.samples-all.ensures.whole c.width.ensures c.height.ensures c.min.ensures s.some.1 in
    let line = row_centred p c.samples-all.result.now c.width.result c.height.result c.args.y c.min.result s.depth
    c.half_range.result c.samples-all.ensures.value c.width.ensures c.height.ensures c.min.ensures (omega arith) inside
    c.half_range.ensures in
    let apart : (k : ℕ) → k < 2 * l.w → line_of c.ready_row.new.cells (c.args.start + k)
    ≡ halves_apart l.w (on_samples doubled (is_shifted l.wavelets.down) (2 * l.w)
    (λ (j : ℕ). padded_sample p s.depth j c.args.y)) k =
    rw c.is_shifted.ensures at (λ (k : ℕ) (h : k < 2 * l.w). c.ready_row.ensures.on k h
    ∙ ap (λ (f : Line). halves_apart l.w (on_samples doubled c.is_shifted.result (2 * l.w) f) k) line) in
    analysis_narrow c.args.start l.w l.wavelets.down l.some_columns (λ (j : ℕ). padded_sample p s.depth j c.args.y) most
    b.parts.made b.parts.across (λ k h. padded_within p s.depth s.bits.0 s.samples k c.args.y) c.ready_row.new.cells
    apart

pub returns-clause-on : goal.returns-clause-on
returns-clause-on c =
    let s = c.args.source.now in
    let l = s.level in
    let p = s.plane.now in
    let most = 2 ^ (s.depth - 1) in
    let b = level_reached l.wavelets.down most s.fits in
    let inside = row_inside p c.samples-all.result.now c.width.result c.height.result c.args.y c.min.result
    c.samples-all.ensures.whole c.width.ensures c.height.ensures c.min.ensures s.some.1 in
    let line = row_centred p c.samples-all.result.now c.width.result c.height.result c.args.y c.min.result s.depth
    c.half_range.result c.samples-all.ensures.value c.width.ensures c.height.ensures c.min.ensures (omega arith) inside
    c.half_range.ensures in
    let apart : (k : ℕ) → k < 2 * l.w → line_of c.ready_row.new.cells (c.args.start + k)
    ≡ halves_apart l.w (on_samples doubled (is_shifted l.wavelets.down) (2 * l.w)
    (λ (j : ℕ). padded_sample p s.depth j c.args.y)) k =
    rw c.is_shifted.ensures at (λ (k : ℕ) (h : k < 2 * l.w). c.ready_row.ensures.on k h
    ∙ ap (λ (f : Line). halves_apart l.w (on_samples doubled c.is_shifted.result (2 * l.w) f) k) line) in
    row_parted c.args.start l.w l.wavelets.down l.some_columns (λ (j : ℕ). padded_sample p s.depth j c.args.y) most
    b.parts.made b.parts.across (λ k h. padded_within p s.depth s.bits.0 s.samples k c.args.y) c.ready_row.new.cells
    apart c.analyse_narrow.new.cells c.analyse_narrow.ensures.on

pub returns-clause-off : goal.returns-clause-off
returns-clause-off c = λ i out.
    row_beside c.args.start c.args.source.now.level.w c.ready_row.new.cells c.analyse_narrow.new.cells
    c.analyse_narrow.ensures.off i out
    ∙ c.ready_row.ensures.off i out

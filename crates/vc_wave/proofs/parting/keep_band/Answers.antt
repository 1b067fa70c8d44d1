use Rattle.std.proofs.Common.{◌+◌, ◌-◌, ◌*◌, ◌≤◌, inl, length-take, arith}
use Rattle.std.proofs.Math.Nat.{mul-le-mul_right}
use Rattle.vc_wave.specs.Parts.{pairs_held}
use Rattle.vc_wave.specs.Remade.{parted_in_turn}
use Rattle.vc_wave.specs.Samples.{padded_sample}
use Rattle.vc_wave.proofs.PartedBands.{band_left}
use Rattle.vc_wave.proofs.parting.keep_band.Goals as goal

pub slice_bounds-window-end : goal.slice_bounds-window-end
slice_bounds-window-end c =
    let l = c.args.source.now.level in
    let past : 2 * c.args.band.now.pairs * (2 * l.w) ≤ 2 * pairs_held l.wavelets.down * (2 * l.w) =
    mul-le-mul_right (2 * l.w) (omega (arith, c.requires.few)) in
    omega (arith, past, c.requires.room)

pub put_cells-requires-clause-at : goal.put_cells-requires-clause-at
put_cells-requires-clause-at c =
    let band = c.args.band.now in
    let wanted = c.args.wanted in
    let columns = 2 * c.args.source.now.level.w in
    let past : (2 * (band.from - wanted.from) + 2 * (c.min-end.result - band.from)) * columns
    ≤ 2 * (wanted.to - wanted.from) * columns =
    mul-le-mul_right columns (omega (arith, c.min-end.ensures, c.requires.order)) in
    omega (arith, past, c.requires.out)

pub put_cells-requires-clause-from : goal.put_cells-requires-clause-from
put_cells-requires-clause-from c =
    let band = c.args.band.now in
    let l = c.args.source.now.level in
    let columns = 2 * l.w in
    let held : 2 * band.pairs * columns ≤ 2 * pairs_held l.wavelets.down * columns =
    mul-le-mul_right columns (omega (arith, c.requires.few)) in
    let past : (2 * (band.from - band.first) + 2 * (c.min-end.result - band.from)) * columns
    ≤ 2 * band.pairs * columns =
    mul-le-mul_right columns
    (omega (arith, c.min-end.ensures, c.requires.order, c.requires.holds.begins, c.requires.holds.ends)) in
    omega (
      arith,
      past,
      held,
      c.requires.room,
      c.part_band.auto.window,
      length-take (2 * band.pairs * columns) c.args.room.now,
    )

pub returns-clause-made : goal.returns-clause-made
returns-clause-made c =
    let s = c.args.source.now in
    let l = s.level in
    let band = c.args.band.now in
    let wanted = c.args.wanted in
    band_left (2 * l.w) band.from band.to band.first wanted.from wanted.to c.min-end.result c.part_band.new.window
    c.put_cells.new.cells
    (parted_in_turn l.wavelets.down l.w l.h (padded_sample s.plane.now s.depth)) c.requires.holds.begins
    c.requires.order.0 c.min-end.ensures c.put_cells.ensures.on c.part_band.ensures

pub returns-clause-before : goal.returns-clause-before
returns-clause-before c = λ i h. c.put_cells.ensures.off i (inl h)

use Rattle.std.proofs.Common.{◌*◌, arith, sym, ◌∙◌}
use Rattle.vc_lift.specs.Ranges.{narrow_bound}
use Rattle.vc_wave.specs.NarrowBounds.{CarriesTo}
use Rattle.vc_wave.specs.Parts.{subbands_of}
use Rattle.vc_wave.proofs.BandRows.{columns_in_part}
use Rattle.vc_wave.proofs.CarriedBounds.{columns_within}
use Rattle.vc_wave.proofs.bands.synth_band.Goals as goal

pub merge_columns-requires-clause-bound : goal.merge_columns-requires-clause-bound
merge_columns-requires-clause-bound c = record {
  most = c.from-most.result;
  after = c.in_ok-made.made;
  small = λ i. omega (arith, c.gather.ensures.within i, c.from-most.ensures);
  fits = sym c.narrow_bound.ensures.value ∙ c.in_ok-made.was;
}

pub rows_reach-requires-clause-within : goal.rows_reach-requires-clause-within
rows_reach-requires-clause-within c =
    let l = c.args.subbands.now.level in
    let carried : CarriesTo (narrow_bound l.wavelets.down) c.gather.new.window c.in_ok-made.made = record {
      most = c.from-most.result;
      small = λ i. omega (arith, c.gather.ensures.within i, c.from-most.ensures);
      fits = sym c.narrow_bound.ensures.value ∙ c.in_ok-made.was;
    } in
    columns_within l.wavelets.down c.args.band.now.pairs (2 * l.w) (2 * l.w) c.in_ok-made.made
    c.gather.new.window c.merge_columns.new.cells c.requires.holds.some (omega (arith, l.some_columns))
    carried c.merge_columns.ensures

pub returns-clause-made : goal.returns-clause-made
returns-clause-made c =
    let l = c.args.subbands.now.level in
    let band = c.args.band.now in
    columns_in_part l.wavelets.down l.h band.from band.to band.first band.pairs l.w
    (subbands_of c.args.subbands.now) c.gather.new.window c.merge_columns.new.cells c.requires.holds
    c.gather.ensures.made c.merge_columns.ensures

pub returns-clause-bound : goal.returns-clause-bound
returns-clause-bound c = rw c.in_ok-after.was at c.rows_reach.ensures.value

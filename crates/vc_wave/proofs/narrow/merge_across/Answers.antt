use Rattle.std.proofs.Common.{◌≡◌, ◌*◌, ◌^◌, arith, sym, ◌∙◌}
use Rattle.vc_wave.specs.Planes.{plane_of}
use Rattle.vc_wave.proofs.CarriedBounds.{has_bound, rows_within}
use Rattle.vc_wave.proofs.Levels.{level_fits, level_some, no_across, next_across}
use Rattle.vc_wave.proofs.Weaving.{level_across_remade}
use Rattle.vc_wave.proofs.narrow.merge_across.Goals as goal

pub loop-level-init : goal.loop-level-init
loop-level-init c = record {
  made = no_across c.args.rows.wavelet c.args.rows.half c.args.rows.count
      (plane_of c.args.rows.pitch c.args.cells.now);
  within = c.requires.within;
  small = c.requires.most;
}

pub merge_rows-requires-clause-bound : goal.merge_rows-requires-clause-bound
merge_rows-requires-clause-bound c = has_bound (rw c.in_ok-bound.was at c.rows_reach.ensures.value)

pub loop-level-preserved : goal.loop-level-preserved
loop-level-preserved c =
    let rows = c.args.rows in
    let level = c.loop-level.level in
    let now = plane_of rows.pitch c.loop-level.cells in
    let fits = level_fits rows.half level c.args.levels c.loop-level-test.true in
    let some = level_some rows.half level rows.some in
    record {
      made =
          next_across rows.wavelet level rows.half rows.count (plane_of rows.pitch c.args.cells.now) now
          (plane_of rows.pitch c.merge_rows.new.cells) c.loop-level.invariant.made
          ((rw c.side_at-half.ensures at c.merge_rows.ensures)
          ∙ sym (level_across_remade rows.wavelet (rows.half * 2 ^ level) rows.count now));
      within = rows_within rows.wavelet c.side_at-half.result rows.count rows.pitch c.in_ok-bound.bound
          c.loop-level.cells c.merge_rows.new.cells (omega (arith, some, c.side_at-half.ensures))
          (omega (arith, some, fits, c.requires.room.across))
          (rw c.in_ok-bound.was at c.rows_reach.ensures.value) c.merge_rows.ensures;
      small = rw c.in_ok-bound.was at c.rows_reach.ensures.small;
    }

pub returns-clause-made : goal.returns-clause-made
returns-clause-made c =
    (let end : c.loop-level.level ≡ c.args.levels = omega arith in rw end at c.loop-level.invariant.made)

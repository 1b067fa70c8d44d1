use Rattle.std.proofs.Common.{◌≡◌, ◌*◌, ◌^◌, arith, sym, ◌∙◌}
use Rattle.vc_wave.specs.Planes.{plane_of}
use Rattle.vc_wave.proofs.Levels.{across_room, no_across, next_across}
use Rattle.vc_wave.proofs.Weaving.{level_across_remade}
use Rattle.vc_wave.proofs.long.merge_across.Goals as goal

pub loop-level-init : goal.loop-level-init
loop-level-init c =
    no_across c.args.rows.wavelet c.args.rows.half c.args.rows.count
    (plane_of c.args.rows.pitch c.args.cells.now)

pub merge_rows-requires : goal.merge_rows-requires
merge_rows-requires c =
    let rows = c.args.rows in
    record {
      room = rw (c.side_at-half.ensures, c.loop-level.auto.cells, c.loop-level.auto.scratch)
          (across_room rows.half rows.count c.loop-level.level c.args.levels rows.pitch _ _ _ c.loop-level-test.true
          c.requires.room);
    }

pub loop-level-preserved : goal.loop-level-preserved
loop-level-preserved c =
    let rows = c.args.rows in
    let level = c.loop-level.level in
    let now = plane_of rows.pitch c.loop-level.cells in
    next_across rows.wavelet level rows.half rows.count (plane_of rows.pitch c.args.cells.now) now
    (plane_of rows.pitch c.merge_rows.new.cells) c.loop-level.invariant
    ((rw c.side_at-half.ensures at (c.merge_rows.ensures c.if-not-merge_rows.false))
    ∙ sym (level_across_remade rows.wavelet (rows.half * 2 ^ level) rows.count now))

pub returns : goal.returns
returns c = λ fits. (let end : c.loop-level.level ≡ c.args.levels = omega arith in rw end at c.loop-level.invariant)

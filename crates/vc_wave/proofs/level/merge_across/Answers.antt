use Rattle.std.proofs.Common.{◌≡◌, ◌+◌, ◌*◌, ◌^◌, arith, sym, ◌∙◌}
use Rattle.vc_types.specs.Transforms.{levels_across}
use Rattle.vc_wave.specs.Planes.{plane_of}
use Rattle.vc_wave.proofs.Levels.{across_room, no_across, next_across}
use Rattle.vc_wave.proofs.PlaneGrowth.{below_more, levels_across_grow}
use Rattle.vc_wave.proofs.Weaving.{level_across_remade}
use Rattle.vc_wave.proofs.level.merge_across.Goals as goal

pub loop-level-init : goal.loop-level-init
loop-level-init c =
    no_across c.args.rows.wavelet c.args.rows.half c.args.rows.count
    (plane_of c.args.rows.pitch c.args.cells.now)

pub remake_rows-requires-clause-room : goal.remake_rows-requires-clause-room
remake_rows-requires-clause-room c =
    let rows = c.args.rows in
    rw (c.side_at-half.ensures, c.loop-level.auto.cells, c.loop-level.auto.scratch)
    (across_room rows.half rows.count c.loop-level.level c.args.levels rows.pitch _ _ _ c.loop-level-test.true
    c.requires.room)

pub remake_rows-requires-clause-small : goal.remake_rows-requires-clause-small
remake_rows-requires-clause-small c =
    let rows = c.args.rows in
    let level = c.loop-level.level in
    let before = plane_of rows.pitch c.args.cells.now in
    rw c.loop-level.invariant
    (below_more (60 + 4 * level) 107 (levels_across rows.wavelet level rows.half rows.count before)
    (omega arith)
    (levels_across_grow rows.wavelet level rows.half rows.count 60 before (omega arith) c.requires.small))

pub loop-level-preserved : goal.loop-level-preserved
loop-level-preserved c =
    let rows = c.args.rows in
    let level = c.loop-level.level in
    let now = plane_of rows.pitch c.loop-level.cells in
    next_across rows.wavelet level rows.half rows.count (plane_of rows.pitch c.args.cells.now) now
    (plane_of rows.pitch c.remake_rows.new.cells) c.loop-level.invariant
    ((rw c.side_at-half.ensures at c.remake_rows.ensures)
    ∙ sym (level_across_remade rows.wavelet (rows.half * 2 ^ level) rows.count now))

pub returns : goal.returns
returns c = (let end : c.loop-level.level ≡ c.args.levels = omega arith in rw end at c.loop-level.invariant)

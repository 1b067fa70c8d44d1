use Rattle.std.proofs.Common.{rules, ◌≡◌, ◌*◌, arith}
use Rattle.vc_wave.specs.declared.pass.Direction.TheVariants.{Synthesis}
use Rattle.vc_wave.specs.Remade.{remade}
use Rattle.vc_wave.proofs.PlaneSteps.{rows_none, row_of_line, rows_more}
use Rattle.vc_wave.proofs.Weaving.{remade_pass}
use Rattle.vc_wave.proofs.long.merge_rows.Goals as goal

pub loop-y-init : goal.loop-y-init
loop-y-init c = search (rules, rows_none)

pub loop-y-preserved : goal.loop-y-preserved
loop-y-preserved c =
    let rows = c.args.rows in
    let f = remade Synthesis rows.wavelet c.is_shifted-shifted.result rows.half in
    rows_more f rows.pitch c.loop-y.y (2 * rows.half) c.args.cells.now c.loop-y.cells
    (remade_pass Synthesis rows.wavelet c.is_shifted-shifted.result rows.half) c.requires.room.across
    c.loop-y.invariant c.merge.new.cells
    (row_of_line f (c.loop-y.y * rows.pitch) rows.half c.loop-y.cells c.merge.new.cells
    (c.merge.ensures c.if-not-merge.false))

pub returns : goal.returns
returns c = λ fits.
    let end : c.loop-y.y ≡ c.args.rows.count = omega arith in
    rw (end, c.is_shifted-shifted.ensures) at c.loop-y.invariant

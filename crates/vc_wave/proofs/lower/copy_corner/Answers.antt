use Rattle.std.proofs.Common.{◌+◌, ◌*◌, ◌≤◌, arith, sym, ◌∙◌}
use Rattle.std.proofs.Math.Nat.{mul-le-mul_right}
use Rattle.vc_wave.proofs.LowCells.{copied_more}
use Rattle.vc_wave.proofs.PlaneSteps.{plane_in}
use Rattle.vc_wave.proofs.lower.copy_corner.Goals as goal

pub put_cells-requires-clause-at : goal.put_cells-requires-clause-at
put_cells-requires-clause-at c =
    let past : (c.loop-y.y + 1) * c.args.columns ≤ c.args.rows * c.args.columns =
    mul-le-mul_right c.args.columns (omega (arith, c.loop-y-test.true)) in
    omega (arith, past, c.requires.cells, c.loop-y.auto.cells)

pub put_cells-requires-clause-from : goal.put_cells-requires-clause-from
put_cells-requires-clause-from c =
    let past : (c.loop-y.y + 1) * c.args.stride ≤ c.args.rows * c.args.stride =
    mul-le-mul_right c.args.stride (omega (arith, c.loop-y-test.true)) in
    omega (arith, past, c.requires.across, c.requires.down)

pub loop-y-preserved : goal.loop-y-preserved
loop-y-preserved c =
    copied_more c.args.columns c.args.stride c.loop-y.y c.args.nested.now c.loop-y.cells c.put_cells.new.cells
    c.put_cells.ensures.on c.put_cells.ensures.off c.loop-y.invariant

pub returns : goal.returns
returns c = λ x y a b. plane_in c.args.columns c.loop-y.cells x y a ∙ c.loop-y.invariant x y a (omega (arith, b))
    ∙ sym (plane_in c.args.stride c.args.nested.now x y (omega (arith, a, c.requires.across)))

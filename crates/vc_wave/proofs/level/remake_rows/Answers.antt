use Rattle.std.proofs.Common.{rules, ◌≡◌, ◌+◌, ◌*◌, arith}
use Rattle.vc_wave.specs.Remade.{remade}
use Rattle.vc_wave.proofs.PlaneSteps.{rows_none, row_of_line, row_left, rows_more}
use Rattle.vc_wave.proofs.Weaving.{remade_pass}
use Rattle.vc_wave.proofs.level.remake_rows.Goals as goal

pub loop-y-init : goal.loop-y-init
loop-y-init c = search (rules, rows_none)

pub remake-requires-clause-small : goal.remake-requires-clause-small
remake-requires-clause-small c = λ x k h lt.
    let rows = c.args.rows in
    let shifted = c.is_shifted-shifted.result in
    let first : x ≡ 0 = omega arith in
    let once : k * 1 + 0 ≡ k = omega arith in
    let left = row_left (remade c.args.direction rows.wavelet shifted rows.half) rows.pitch c.loop-y.y
    (2 * rows.half)
    c.args.cells.now c.loop-y.cells (remade_pass c.args.direction rows.wavelet shifted rows.half)
    c.requires.room.across c.loop-y.invariant k lt in
    let place : c.loop-y.y * rows.pitch + k * 1 + x ≡ c.loop-y.y * rows.pitch + k = omega arith in
    rw (place, left) (c.requires.small k c.loop-y.y)

pub loop-y-preserved : goal.loop-y-preserved
loop-y-preserved c = search (rules, rows_more, row_of_line, remade_pass)

pub returns : goal.returns
returns c =
    let end : c.loop-y.y ≡ c.args.rows.count = omega arith in
    rw (end, c.is_shifted-shifted.ensures) at c.loop-y.invariant

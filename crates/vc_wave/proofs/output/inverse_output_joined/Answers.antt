use Rattle.std.proofs.Common.{◌-◌, ◌*◌, arith, ap, ◌∙◌}
use Rattle.std.proofs.Math.Nat.{mul-le-mul}
use Rattle.vc_types.specs.Planes.{output_sample}
use Rattle.vc_types.specs.Subbands.{padded_width, padded_height}
use Rattle.vc_types.specs.TransformParameters.{parameters_of}
use Rattle.vc_types.specs.Transforms.{Cells}
use Rattle.vc_wave.specs.Planes.{plane_of}
use Rattle.vc_wave.proofs.HighestLevel.{highest_made, plane_across, plane_down}
use Rattle.vc_wave.proofs.LowCells.{held_long}
use Rattle.vc_wave.proofs.output.inverse_output_joined.Goals as goal

pub overflow_mul-count : goal.overflow_mul-count
overflow_mul-count g c =
    let small = c.highest-level.ensures.small in
    let all = mul-le-mul small.1 small.0 in
    omega (arith, all)

pub invariant_of-subbands-clause-below : goal.invariant_of-subbands-clause-below
invariant_of-subbands-clause-below g c =
    rw c.held.ensures
    (held_long (c.args.plan.now.depth - 1) c.merge_below.new.first c.merge_below.new.second
    (c.highest-level.result.h * c.highest-level.result.w) (omega arith) (omega arith))

pub invariant_of-subbands-clause-across : goal.invariant_of-subbands-clause-across
invariant_of-subbands-clause-across g c = omega (arith, c.highest-level.ensures.columns, c.highest-level.ensures.pitch)

pub invariant_of-subbands-clause-down : goal.invariant_of-subbands-clause-down
invariant_of-subbands-clause-down g c =
    let level = c.highest-level in
    let rows = ap (λ n. n * level.result.pitch) level.ensures.rows in
    let columns = ap (λ n. padded_height (parameters_of c.args.plan.now) c.args.c * n) level.ensures.pitch in
    omega (arith, rows, columns, c.requires.nested)

pub put_halves-requires-clause-width : goal.put_halves-requires-clause-width
put_halves-requires-clause-width g c =
    let p = parameters_of c.args.plan.now in
    rw c.highest-level.ensures.w
    (plane_across p c.args.c (omega arith) c.args.format.columns c.requires.columns c.requires.range.0)

pub put_halves-requires-clause-height : goal.put_halves-requires-clause-height
put_halves-requires-clause-height g c =
    let p = parameters_of c.args.plan.now in
    omega (
      arith,
      plane_down p c.args.c (omega arith) c.args.format.rows c.requires.rows c.requires.range.1,
      c.highest-level.ensures.h,
    )

pub returns : goal.returns
returns g c = λ whole x y a lt.
    let p = parameters_of c.args.plan.now in
    let level = c.highest-level.ensures in
    let made = highest_made p c.args.c (omega arith) _
    (plane_of (padded_width p c.args.c) c.args.nested.now) (c.merge_below.ensures c.if-not-merge_below.false) in
    (rw (level.down, level.across, level.w, level.h, level.pitch, c.held.ensures) at
    (c.put_halves.ensures whole x y a lt))
    ∙ ap (λ (f : Cells). output_sample c.args.format.depth (f x y)) made

use Rattle.std.proofs.Common.{rules, ◌≡◌, ◌+◌, ◌-◌, ◌*◌, ◌^◌, length, pos, slice_index_or, to_z, arith, sym}
use Rattle.std.specs.Int.{w128}
use Rattle.vc_lift.specs.CountedSteps.{sum_met}
use Rattle.vc_lift.proofs.WeightedSums.{sum_below_none, sum_below_more}
use Rattle.vc_lift.proofs.Places.{fewer, place_below, inside_place, inside_below, inside_small}
use Rattle.vc_lift.proofs.Sums.{tap_read, sample_fits, light_fits, light_room, term_fits, sum_fits, sum_read}
use Rattle.vc_lift.proofs.Sums.{sum_more}
use Rattle.vc_lift.proofs.columns.weigh_inside.Goals as goal

pub loop-j-init : goal.loop-j-init
loop-j-init c = record { value = sym (sum_below_none _); bound = search rules }

pub overflow_mul-first : goal.overflow_mul-first
overflow_mul-first c =
    omega (arith, fewer c.args.columns.half c.args.columns.width c.args.x c.requires.can.column)

pub overflow_add-first : goal.overflow_add-first
overflow_add-first c =
    omega (arith, fewer c.args.columns.half c.args.columns.width c.args.x c.requires.can.column)

pub overflow_mul-first-2 : goal.overflow_mul-first-2
overflow_mul-first-2 c = omega (
  arith,
  place_below c.args.columns.half c.args.columns.width
      (2 * (c.args.n - c.args.step.now.back) + (1 - c.args.step.now.parity)) c.args.x (omega arith)
      c.requires.can.column,
)

pub overflow_add-first-2 : goal.overflow_add-first-2
overflow_add-first-2 c = omega (
  arith,
  place_below c.args.columns.half c.args.columns.width
      (2 * (c.args.n - c.args.step.now.back) + (1 - c.args.step.now.parity)) c.args.x (omega arith)
      c.requires.can.column,
)

pub overflow_mul-sum-in-loop-j : goal.overflow_mul-sum-in-loop-j
overflow_mul-sum-in-loop-j c = let below =
    inside_below c.args.columns.half c.args.columns.width c.args.n c.args.step.now.back c.loop-j.j c.args.x
    c.args.step.now.parity c.requires.can.at c.requires.left (omega arith) c.requires.can.column in
    omega (arith, below)

pub overflow_add-sum : goal.overflow_add-sum
overflow_add-sum c = let below =
    inside_below c.args.columns.half c.args.columns.width c.args.n c.args.step.now.back c.loop-j.j c.args.x
    c.args.step.now.parity c.requires.can.at c.requires.left (omega arith) c.requires.can.column in
    omega (arith, below)

pub offset_bounds-cells-first : goal.offset_bounds-cells-first
offset_bounds-cells-first c = let below =
    inside_below c.args.columns.half c.args.columns.width c.args.n c.args.step.now.back c.loop-j.j c.args.x
    c.args.step.now.parity c.requires.can.at c.requires.left (omega arith) c.requires.can.column in
    omega (arith, below)

pub bounds-cells-first : goal.bounds-cells-first
bounds-cells-first c = let below =
    inside_below c.args.columns.half c.args.columns.width c.args.n c.args.step.now.back c.loop-j.j c.args.x
    c.args.step.now.parity c.requires.can.at c.requires.left (omega arith) c.requires.can.column in
    omega (arith, below)

pub overflow_mul-sum-in-loop-j-2 : goal.overflow_mul-sum-in-loop-j-2
overflow_mul-sum-in-loop-j-2 c =
    let k = (2 * (c.args.n - c.args.step.now.back) +
    (1 - c.args.step.now.parity)) * c.args.columns.width + c.args.x + 2 * c.loop-j.j * c.args.columns.width in
    let small = inside_small c.args.columns.half c.args.columns.width c.args.n c.args.step.now.back c.loop-j.j
    c.args.x c.args.step.now.parity c.requires.can.at c.requires.left (omega arith) c.args.cells.now
    (2 ^ 112) c.requires.can.met in
    term_fits w128 c.args.step.now.taps.now (2 ^ 112) c.loop-j.j c.from.result
    (slice_index_or c.args.cells.now k (pos 0)) (to_z w128 c.loop-j.sum-bits)
    (tap_read c.args.step.now.taps.now c.loop-j.j c.from.result c.from.ensures c.loop-j-test.true
    c.args.step.now.plain.light) c.loop-j-test.true (light_fits c.args.step.now.plain.light)
    (sample_fits small) (light_room c.args.step.now.plain.light) small c.loop-j.invariant.bound

pub overflow_add-sum-in-loop-j : goal.overflow_add-sum-in-loop-j
overflow_add-sum-in-loop-j c =
    let k = (2 * (c.args.n - c.args.step.now.back) +
    (1 - c.args.step.now.parity)) * c.args.columns.width + c.args.x + 2 * c.loop-j.j * c.args.columns.width in
    let small = inside_small c.args.columns.half c.args.columns.width c.args.n c.args.step.now.back c.loop-j.j
    c.args.x c.args.step.now.parity c.requires.can.at c.requires.left (omega arith) c.args.cells.now
    (2 ^ 112) c.requires.can.met in
    sum_fits w128 c.args.step.now.taps.now (2 ^ 112) c.loop-j.j c.from.result
    (slice_index_or c.args.cells.now k (pos 0)) (to_z w128 c.loop-j.sum-bits)
    (tap_read c.args.step.now.taps.now c.loop-j.j c.from.result c.from.ensures c.loop-j-test.true
    c.args.step.now.plain.light) c.loop-j-test.true (light_fits c.args.step.now.plain.light)
    (sample_fits small) (light_room c.args.step.now.plain.light) small c.loop-j.invariant.bound

pub loop-j-preserved : goal.loop-j-preserved
loop-j-preserved c =
    let k = (2 * (c.args.n - c.args.step.now.back) +
    (1 - c.args.step.now.parity)) * c.args.columns.width + c.args.x + 2 * c.loop-j.j * c.args.columns.width in
    let small = inside_small c.args.columns.half c.args.columns.width c.args.n c.args.step.now.back c.loop-j.j
    c.args.x c.args.step.now.parity c.requires.can.at c.requires.left (omega arith) c.args.cells.now
    (2 ^ 112) c.requires.can.met in
    let x = slice_index_or c.args.cells.now k (pos 0) in
    let sum = to_z w128 c.loop-j.sum-bits in
    let tap = tap_read c.args.step.now.taps.now c.loop-j.j c.from.result c.from.ensures c.loop-j-test.true
    c.args.step.now.plain.light in
    let read = sum_read w128 c.args.step.now.taps.now
    (2 ^ 112) c.loop-j.j c.from.result x sum tap c.loop-j-test.true
    (light_fits c.args.step.now.plain.light) (sample_fits small)
    (light_room c.args.step.now.plain.light) small c.loop-j.invariant.bound in
    let met = inside_place c.args.columns.half c.args.columns.width c.args.n c.args.step.now.back c.loop-j.j
    c.args.x c.args.step.now.parity c.requires.left (omega arith) in
    record {
      value = rw (read, tap, sum_below_more, ← met, c.loop-j.invariant.value);
      bound = rw read (sum_more c.args.step.now.taps.now
          (2 ^ 112) c.loop-j.j c.from.result x sum tap c.loop-j-test.true small c.loop-j.invariant.bound);
    }

pub returns-clause-value : goal.returns-clause-value
unfolding sum_met
returns-clause-value c = let end : c.loop-j.j ≡ length c.args.step.now.taps.now = omega arith in
    rw (← end) c.loop-j.invariant.value

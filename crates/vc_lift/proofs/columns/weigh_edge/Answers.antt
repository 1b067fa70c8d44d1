use Rattle.std.proofs.Common.{rules, ◌≡◌, ◌+◌, ◌-◌, ◌*◌, ◌^◌, ◌≤◌, length, unsigned_abs, pos, slice_index_or}
use Rattle.std.proofs.Common.{min, to_z, arith, sym}
use Rattle.std.specs.Int.{w128}
use Rattle.vc_types.specs.Lifting.{line_of}
use Rattle.vc_lift.specs.CountedSteps.{sum_met}
use Rattle.vc_lift.proofs.WeightedSums.{sum_below_none, sum_below_more}
use Rattle.vc_lift.proofs.Sums.{tap_read, sample_fits, light_fits, light_room, term_fits, sum_fits, sum_read}
use Rattle.vc_lift.proofs.Sums.{sum_more}
use Rattle.vc_lift.proofs.Places.{fewer, place_below}
use Rattle.vc_lift.proofs.columns.weigh_edge.Goals as goal

pub loop-j-init : goal.loop-j-init
loop-j-init c = record { value = sym (sum_below_none _); bound = search rules }

pub overflow_add-n : goal.overflow_add-n
overflow_add-n c = omega (arith, fewer c.args.columns.half c.args.columns.width c.args.x c.requires.column)

pub overflow_mul-sum : goal.overflow_mul-sum
overflow_mul-sum c = omega (arith, fewer c.args.columns.half c.args.columns.width c.args.x c.requires.column)

pub overflow_add-sum : goal.overflow_add-sum
overflow_add-sum c = omega (arith, fewer c.args.columns.half c.args.columns.width c.args.x c.requires.column)

pub overflow_mul-sum-in-loop-j : goal.overflow_mul-sum-in-loop-j
overflow_mul-sum-in-loop-j c = omega (
  arith,
  place_below c.args.columns.half c.args.columns.width
      (2 * c.min-met.result + (1 - c.args.step.now.parity)) c.args.x (omega arith) c.requires.column,
)

pub overflow_add-sum-in-loop-j : goal.overflow_add-sum-in-loop-j
overflow_add-sum-in-loop-j c = omega (
  arith,
  place_below c.args.columns.half c.args.columns.width
      (2 * c.min-met.result + (1 - c.args.step.now.parity)) c.args.x (omega arith) c.requires.column,
)

pub offset_bounds-cells-met : goal.offset_bounds-cells-met
offset_bounds-cells-met c = omega (
  arith,
  place_below c.args.columns.half c.args.columns.width
      (2 * c.min-met.result + (1 - c.args.step.now.parity)) c.args.x (omega arith) c.requires.column,
)

pub bounds-cells-met : goal.bounds-cells-met
bounds-cells-met c = omega (
  arith,
  place_below c.args.columns.half c.args.columns.width
      (2 * c.min-met.result + (1 - c.args.step.now.parity)) c.args.x (omega arith) c.requires.column,
)

pub overflow_mul-sum-in-loop-j-2 : goal.overflow_mul-sum-in-loop-j-2
overflow_mul-sum-in-loop-j-2 c =
    let k = (2 * c.min-met.result + (1 - c.args.step.now.parity)) * c.args.columns.width + c.args.x in
    let small : unsigned_abs (line_of c.args.cells.now k) ≤ 2 ^ 112 =
    c.requires.met.within c.min-met.result (omega arith) in
    term_fits w128 c.args.step.now.taps.now (2 ^ 112) c.loop-j.j c.from.result
    (slice_index_or c.args.cells.now k (pos 0)) (to_z w128 c.loop-j.sum-bits)
    (tap_read c.args.step.now.taps.now c.loop-j.j c.from.result c.from.ensures c.loop-j-test.true
    c.args.step.now.plain.light) c.loop-j-test.true (light_fits c.args.step.now.plain.light)
    (sample_fits small) (light_room c.args.step.now.plain.light) small c.loop-j.invariant.bound

pub overflow_add-sum-in-loop-j-2 : goal.overflow_add-sum-in-loop-j-2
overflow_add-sum-in-loop-j-2 c =
    let k = (2 * c.min-met.result + (1 - c.args.step.now.parity)) * c.args.columns.width + c.args.x in
    let small : unsigned_abs (line_of c.args.cells.now k) ≤ 2 ^ 112 =
    c.requires.met.within c.min-met.result (omega arith) in
    sum_fits w128 c.args.step.now.taps.now (2 ^ 112) c.loop-j.j c.from.result
    (slice_index_or c.args.cells.now k (pos 0)) (to_z w128 c.loop-j.sum-bits)
    (tap_read c.args.step.now.taps.now c.loop-j.j c.from.result c.from.ensures c.loop-j-test.true
    c.args.step.now.plain.light) c.loop-j-test.true (light_fits c.args.step.now.plain.light)
    (sample_fits small) (light_room c.args.step.now.plain.light) small c.loop-j.invariant.bound

pub loop-j-preserved : goal.loop-j-preserved
loop-j-preserved c =
    let k = (2 * c.min-met.result + (1 - c.args.step.now.parity)) * c.args.columns.width + c.args.x in
    let x = slice_index_or c.args.cells.now k (pos 0) in
    let small : unsigned_abs x ≤ 2 ^ 112 = c.requires.met.within c.min-met.result (omega arith) in
    let sum = to_z w128 c.loop-j.sum-bits in
    let tap = tap_read c.args.step.now.taps.now c.loop-j.j c.from.result c.from.ensures c.loop-j-test.true
    c.args.step.now.plain.light in
    let read = sum_read w128 c.args.step.now.taps.now
    (2 ^ 112) c.loop-j.j c.from.result x sum tap c.loop-j-test.true
    (light_fits c.args.step.now.plain.light) (sample_fits small)
    (light_room c.args.step.now.plain.light) small c.loop-j.invariant.bound in
    let met : c.min-met.result
    ≡ min (c.args.n + c.loop-j.j - c.args.step.now.back) (c.args.columns.half - 1) = omega arith in
    record {
      value = rw (read, tap, sum_below_more, ← met, c.loop-j.invariant.value);
      bound = rw read (sum_more c.args.step.now.taps.now
          (2 ^ 112) c.loop-j.j c.from.result x sum tap c.loop-j-test.true small c.loop-j.invariant.bound);
    }

pub returns-clause-value : goal.returns-clause-value
unfolding sum_met
returns-clause-value c = let end : c.loop-j.j ≡ length c.args.step.now.taps.now = omega arith in
    rw (← end) c.loop-j.invariant.value

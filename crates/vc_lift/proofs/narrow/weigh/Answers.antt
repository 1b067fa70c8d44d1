use Rattle.std.proofs.lemmas.Grind.{common_steps}
use Rattle.std.proofs.Common.{rules, ◌≡◌, ◌+◌, ◌<◌, ◌≤◌, ℕ, length, unsigned_abs, pos, ◌+ℤ◌, ◌*ℤ◌}
use Rattle.std.proofs.Common.{slice_index_or, FitsSigned, to_z, arith, sym, ap, subst, ◌∙◌}
use Rattle.std.specs.Int.{w32}
use Rattle.vc_types.specs.Lifting.{line_of}
use Rattle.vc_lift.specs.CountedSteps.{sum_met, place_met, sum_below}
use Rattle.vc_lift.specs.Steps.{counted_of}
use Rattle.vc_lift.specs.Halves.{halves_place, line_in}
use Rattle.vc_lift.proofs.HalfPlaces.{met_at}
use Rattle.vc_lift.proofs.Sums.{term_fits, sum_fits, sum_read, sum_more, narrow_taps, narrow_room, whole_sum}
use Rattle.vc_lift.proofs.WeightedSums.{sum_below_none, sum_below_more}
use Rattle.vc_lift.proofs.narrow.weigh.Goals as goal

pub loop-j-init : goal.loop-j-init
loop-j-init c = record { value = sym (sum_below_none _); bound = λ m small. search rules }

-- the cell that tap j meets
met_place : (c : goal.After-sum-in-loop-j-1)
    → c.place.result ≡ halves_place c.args.halves.now
    (place_met (counted_of c.args.step.now) c.args.halves.now.half c.args.n c.loop-j.j)
met_place c = met_at
    (counted_of c.args.step.now) c.args.halves.now c.args.n c.loop-j.j c.min-met.result c.place.result
    c.args.step.now.plain.parity (omega arith) c.place.ensures

met_small : (c : goal.After-sum-in-loop-j-1)
    → unsigned_abs (slice_index_or c.args.cells.now (c.place.result + c.args.x)
    (pos 0)) ≤ c.requires.room.other
met_small c =
    rw (met_place c) (c.requires.room.met c.loop-j.j c.loop-j-test.true)

pub overflow_add-sum : goal.overflow_add-sum
overflow_add-sum c =
    let inside : c.place.result + c.args.x < length c.args.cells.now =
    rw (met_at (counted_of c.args.step.now) c.args.halves.now c.args.n c.loop-j.j c.min-met.result
    c.place.result c.args.step.now.plain.parity (omega arith) c.place.ensures)
    (c.requires.inside c.loop-j.j c.loop-j-test.true) in omega arith

pub offset_bounds-cells-place : goal.offset_bounds-cells-place
offset_bounds-cells-place c =
    let inside : c.place.result + c.args.x < length c.args.cells.now =
    rw (met_at (counted_of c.args.step.now) c.args.halves.now c.args.n c.loop-j.j c.min-met.result
    c.place.result c.args.step.now.plain.parity (omega arith) c.place.ensures)
    (c.requires.inside c.loop-j.j c.loop-j-test.true) in omega arith

pub bounds-cells-place : goal.bounds-cells-place
bounds-cells-place c =
    let inside : c.place.result + c.args.x < length c.args.cells.now =
    rw (met_at (counted_of c.args.step.now) c.args.halves.now c.args.n c.loop-j.j c.min-met.result
    c.place.result c.args.step.now.plain.parity (omega arith) c.place.ensures)
    (c.requires.inside c.loop-j.j c.loop-j-test.true) in omega arith

pub overflow_mul-sum : goal.overflow_mul-sum
overflow_mul-sum c =
    let x = slice_index_or c.args.cells.now (c.place.result + c.args.x) (pos 0) in
    let own : FitsSigned w32 x = search rules in
    let taps = c.args.step.now.taps.now in
    term_fits w32 taps c.requires.room.other c.loop-j.j (slice_index_or taps c.loop-j.j (pos 0)) x
    (to_z w32 c.loop-j.sum-bits) (λ i. slice_index_or taps c.loop-j.j (pos 0)) c.loop-j-test.true
    (narrow_taps c.args.step.now.plain.light) own
    (narrow_room _ c.requires.room.other _ c.requires.room.sum) (met_small c)
    (c.loop-j.invariant.bound c.requires.room.other c.requires.room.met)

pub overflow_add-sum-in-loop-j : goal.overflow_add-sum-in-loop-j
overflow_add-sum-in-loop-j c =
    let x = slice_index_or c.args.cells.now (c.place.result + c.args.x) (pos 0) in
    let own : FitsSigned w32 x = search rules in
    let taps = c.args.step.now.taps.now in
    sum_fits w32 taps c.requires.room.other c.loop-j.j (slice_index_or taps c.loop-j.j (pos 0)) x
    (to_z w32 c.loop-j.sum-bits) (λ i. slice_index_or taps c.loop-j.j (pos 0)) c.loop-j-test.true
    (narrow_taps c.args.step.now.plain.light) own
    (narrow_room _ c.requires.room.other _ c.requires.room.sum) (met_small c)
    (c.loop-j.invariant.bound c.requires.room.other c.requires.room.met)

pub loop-j-preserved : goal.loop-j-preserved
loop-j-preserved c =
    let x = slice_index_or c.args.cells.now (c.place.result + c.args.x) (pos 0) in
    let own : FitsSigned w32 x = search rules in
    let taps = c.args.step.now.taps.now in
    let j = c.loop-j.j in
    let tap = slice_index_or taps j (pos 0) in
    let sum = to_z w32 c.loop-j.sum-bits in
    let met : c.place.result
    ≡ halves_place c.args.halves.now
    (place_met (counted_of c.args.step.now) c.args.halves.now.half c.args.n j) =
    met_at (counted_of c.args.step.now) c.args.halves.now c.args.n j c.min-met.result c.place.result
    c.args.step.now.plain.parity (omega arith) c.place.ensures in
    let small_here : unsigned_abs x ≤ c.requires.room.other =
    rw met (c.requires.room.met j c.loop-j-test.true) in
    let read = sum_read w32 taps c.requires.room.other j tap x sum (λ i. tap) c.loop-j-test.true
    (narrow_taps c.args.step.now.plain.light) own
    (narrow_room _ c.requires.room.other _ c.requires.room.sum) small_here
    (c.loop-j.invariant.bound c.requires.room.other c.requires.room.met) in
    let f = λ (j : ℕ). slice_index_or taps j (pos 0) *ℤ line_in c.args.halves.now c.args.cells.now c.args.x
    (place_met (counted_of c.args.step.now) c.args.halves.now.half c.args.n j) in
    record {
      value =
          read
          ∙ ap (λ z. z +ℤ tap *ℤ x) c.loop-j.invariant.value
          ∙ ap (λ i. sum_below j f +ℤ tap *ℤ line_of c.args.cells.now (i + c.args.x)) met
          ∙ sym (sum_below_more j f);
      bound = λ m small.
          rw read
          (sum_more taps m j tap x sum (λ i. tap) c.loop-j-test.true
          (subst (λ i. unsigned_abs (line_of c.args.cells.now (i + c.args.x)) ≤ m) (sym met)
          (small j c.loop-j-test.true)) (c.loop-j.invariant.bound m small));
    }

pub returns-clause-value : goal.returns-clause-value
unfolding sum_met
returns-clause-value c = let end : c.loop-j.j ≡ length c.args.step.now.taps.now = omega arith in
    rw (← end) c.loop-j.invariant.value

pub returns-clause-bound : goal.returns-clause-bound
returns-clause-bound c = grind (arith, common_steps, whole_sum)

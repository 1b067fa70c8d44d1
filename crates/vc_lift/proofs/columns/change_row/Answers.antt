use Rattle.std.proofs.Common.{◌≡◌, ◌+◌, ◌*◌, ◌^◌, ◌<◌, ◌≤◌, ◌≢◌, ℕ, length, unsigned_abs, ℤ, to_z, of_z}
use Rattle.std.proofs.Common.{arith, sym, ap, subst, ◌∙◌, inl, inr}
use Rattle.std.specs.Int.{w128}
use Rattle.std.proofs.lemmas.Bool.{cases_eq}
use Rattle.std.proofs.lemmas.Int.{to_z-of_z}
use Rattle.vc_types.specs.Lifting.{changed_by}
use Rattle.vc_lift.specs.CountedSteps.{change_at}
use Rattle.vc_lift.specs.Columns.{column_of}
use Rattle.vc_lift.specs.Steps.{counted_of}
use Rattle.vc_lift.proofs.Places.{fewer, place_below, column_of-set_same, column_of-set_other, one_written}
use Rattle.vc_lift.proofs.Sums.{read_back, changed_read}
use Rattle.vc_lift.proofs.columns.change_row.Goals as goal

pub change_at-change-requires : goal.change_at-change-requires
change_at-change-requires c = record {
  whole = omega arith;
  at = c.requires.at;
  column = omega arith;
  met = rw (c.loop-x.invariant.left c.loop-x.x (omega arith) (omega arith))
      (c.requires.met c.loop-x.x (omega arith));
}

pub overflow_mul-k : goal.overflow_mul-k
overflow_mul-k c = omega (arith, fewer c.args.columns.half c.args.columns.width c.loop-x.x (omega arith))

pub overflow_add-k : goal.overflow_add-k
overflow_add-k c = omega (arith, fewer c.args.columns.half c.args.columns.width c.loop-x.x (omega arith))

pub overflow_mul-k-in-loop-x : goal.overflow_mul-k-in-loop-x
overflow_mul-k-in-loop-x c = omega (
  arith,
  place_below c.args.columns.half c.args.columns.width
      (2 * c.args.n + c.args.step.now.parity) c.loop-x.x (omega arith) (omega arith),
)

pub overflow_add-k-in-loop-x : goal.overflow_add-k-in-loop-x
overflow_add-k-in-loop-x c = omega (
  arith,
  place_below c.args.columns.half c.args.columns.width
      (2 * c.args.n + c.args.step.now.parity) c.loop-x.x (omega arith) (omega arith),
)

pub offset_bounds-cells-k : goal.offset_bounds-cells-k
offset_bounds-cells-k c = omega (
  arith,
  place_below c.args.columns.half c.args.columns.width
      (2 * c.args.n + c.args.step.now.parity) c.loop-x.x (omega arith) (omega arith),
)

pub offset_bounds-cells-k-in-loop-x : goal.offset_bounds-cells-k-in-loop-x
offset_bounds-cells-k-in-loop-x c = omega (
  arith,
  place_below c.args.columns.half c.args.columns.width
      (2 * c.args.n + c.args.step.now.parity) c.loop-x.x (omega arith) (omega arith),
)

pub bounds-cells-k : goal.bounds-cells-k
bounds-cells-k c = omega (
  arith,
  place_below c.args.columns.half c.args.columns.width
      (2 * c.args.n + c.args.step.now.parity) c.loop-x.x (omega arith) (omega arith),
)

pub changed_by-requires-clause-sample : goal.changed_by-requires-clause-sample
changed_by-requires-clause-sample c =
    let k = 2 * c.args.n + c.args.step.now.parity in
    let sample = column_of c.args.columns.width c.loop-x.cells c.loop-x.x k in
    let same : column_of c.args.columns.width c.loop-x.cells c.loop-x.x
    ≡ column_of c.args.columns.width c.args.cells.now c.loop-x.x =
    c.loop-x.invariant.left c.loop-x.x (omega arith) (omega arith) in
    let small : unsigned_abs sample ≤ 2 ^ 112 =
    subst (λ (f : ℕ → ℤ). unsigned_abs (f k) ≤ 2 ^ 112) (sym same)
    (c.requires.changed c.loop-x.x (omega arith)) in
    rw (read_back sample (omega arith)) small

pub loop-x-preserved : goal.loop-x-preserved
loop-x-preserved c =
    let s = counted_of c.args.step.now in
    let x = c.loop-x.x in
    let k = 2 * c.args.n + c.args.step.now.parity in
    let lt : x < c.args.columns.width = omega arith in
    let cells = c.loop-x.cells in
    let sample = column_of c.args.columns.width cells x k in
    let same : column_of c.args.columns.width cells x ≡ column_of c.args.columns.width c.args.cells.now x =
    c.loop-x.invariant.left x (omega arith) lt in
    let small : unsigned_abs sample ≤ 2 ^ 112 =
    subst (λ (f : ℕ → ℤ). unsigned_abs (f k) ≤ 2 ^ 112) (sym same) (c.requires.changed x lt) in
    let v = to_z w128 (of_z w128 c.changed_by.result) in
    let within : k * c.args.columns.width + x < length cells =
    (let b = place_below c.args.columns.half c.args.columns.width k x (omega arith) lt in
    omega (arith, b)) in
    let made : v ≡ changed_by s.adds sample
    (change_at s c.args.columns.half (column_of c.args.columns.width cells x) c.args.n) =
    to_z-of_z w128 c.changed_by.result (record { sfits = c.changed_by.type_inv }) ∙ c.changed_by.ensures
    ∙ changed_read s.adds sample c.change_at-change.result (omega arith)
    (omega (arith, c.change_at-change.ensures.bound))
    ∙ ap (changed_by s.adds sample) c.change_at-change.ensures.value in
    record {
      done = λ i h. elim (cases_eq i x) [
        | inl e ↦ rw e (column_of-set_same c.args.columns.width cells k x v lt within
            ∙ one_written s c.args.columns.half c.args.n (column_of c.args.columns.width cells x)
            (column_of c.args.columns.width c.args.cells.now x) v same made)
        | inr ne ↦ column_of-set_other c.args.columns.width cells k x v lt i (omega arith) ne
            ∙ c.loop-x.invariant.done i (omega arith)
      ];
      left = λ i from h. (let ne : i ≢ x = omega arith in
          column_of-set_other c.args.columns.width cells k x v lt i h ne
          ∙ c.loop-x.invariant.left i (omega arith) h);
    }

use Rattle.std.proofs.Common.{rules, ◌≡◌, ◌≢◌, ◌+◌, ◌*◌, ◌^◌, ◌<◌, ℕ, length, set, slice_index_or, FitsSigned}
use Rattle.std.proofs.Common.{pos, to_z, of_z, arith, ap, sym, ◌∙◌, inl, inr}
use Rattle.std.specs.Int.{w32}
use Rattle.std.proofs.lemmas.Bool.{cases_eq}
use Rattle.std.proofs.lemmas.Int.{to_z-of_z}
use Rattle.std.proofs.lemmas.List.{get_or-set_same, get_or-set_other}
use Rattle.vc_types.specs.Lifting.{line_of, changed_by}
use Rattle.vc_lift.specs.CountedSteps.{change_at, place_met}
use Rattle.vc_lift.specs.Halves.{halves_place, line_in}
use Rattle.vc_lift.specs.Steps.{counted_of}
use Rattle.vc_lift.proofs.HalfPlaces.{place_at, beside_run, past_run, less_reached}
use Rattle.vc_lift.proofs.NarrowSums.{same_room, same_change, narrow_changed}
use Rattle.vc_lift.proofs.narrow.change_cells.Goals as goal

-- the samples that are met are still as they were
met_left : (c : goal.In-loop-x) (j : ℕ) → j < length c.args.step.now.taps.now
    → line_in c.args.halves.now c.loop-x.cells c.loop-x.x
    (place_met (counted_of c.args.step.now) c.args.halves.now.half c.args.n j)
    ≡ line_in c.args.halves.now c.args.cells.now c.loop-x.x
    (place_met (counted_of c.args.step.now) c.args.halves.now.half c.args.n j)
met_left c j h = c.loop-x.invariant.off _
    (beside_run _ (halves_place c.args.halves.now
    (2 * c.args.n + c.args.step.now.parity)) c.args.width c.loop-x.x c.loop-x-test.true
    (c.requires.run.apart j h))

own_left : (c : goal.In-loop-x)
    → line_of c.loop-x.cells
    (halves_place c.args.halves.now (2 * c.args.n + c.args.step.now.parity) + c.loop-x.x)
    ≡ line_of c.args.cells.now
    (halves_place c.args.halves.now (2 * c.args.n + c.args.step.now.parity) + c.loop-x.x)
own_left c = c.loop-x.invariant.off _ (inr (omega arith))

pub overflow_add-at : goal.overflow_add-at
overflow_add-at c = omega (
  arith,
  place_at c.args.halves.now c.args.n c.args.step.now.parity
      c.args.step.now.plain.parity,
  c.requires.run.at,
)

pub offset_bounds-cells-at : goal.offset_bounds-cells-at
offset_bounds-cells-at c = omega (
  arith,
  place_at c.args.halves.now c.args.n c.args.step.now.parity
      c.args.step.now.plain.parity,
  c.requires.run.at,
)

pub overflow_add-at-in-loop-x : goal.overflow_add-at-in-loop-x
overflow_add-at-in-loop-x c = omega (
  arith,
  place_at c.args.halves.now c.args.n c.args.step.now.parity
      c.args.step.now.plain.parity,
  c.requires.run.at,
)

pub offset_bounds-cells-at-in-loop-x : goal.offset_bounds-cells-at-in-loop-x
offset_bounds-cells-at-in-loop-x c = omega (
  arith,
  place_at c.args.halves.now c.args.n c.args.step.now.parity
      c.args.step.now.plain.parity,
  c.requires.run.at,
)

pub bounds-cells-at : goal.bounds-cells-at
bounds-cells-at c = omega (
  arith,
  place_at c.args.halves.now c.args.n c.args.step.now.parity
      c.args.step.now.plain.parity,
  c.requires.run.at,
)

pub change_at-change-requires : goal.change_at-change-requires
change_at-change-requires c = record {
  small = c.requires.small;
  at = c.requires.at;
  inside = λ j lt. (let met = c.requires.run.met j lt in omega (arith, met));
  room =
      same_room (counted_of c.args.step.now) c.args.halves.now.half
      (line_in c.args.halves.now c.loop-x.cells c.loop-x.x)
      (line_in c.args.halves.now c.args.cells.now c.loop-x.x) c.args.n c.args.n (2 ^ 31)
      (met_left c) (own_left c) (c.requires.room c.loop-x.x c.loop-x-test.true);
}

pub loop-x-preserved : goal.loop-x-preserved
loop-x-preserved c =
    let s = counted_of c.args.step.now in
    let h = c.args.halves.now in
    let x = c.loop-x.x in
    let cells = c.loop-x.cells in
    let first = c.args.cells.now in
    let at = halves_place h (2 * c.args.n + s.parity) in
    let v = to_z w32 (of_z w32 c.changed_by.result) in
    let is : c.place-at.result ≡ at = c.place-at.ensures
    ∙ sym (place_at h c.args.n s.parity c.args.step.now.plain.parity) in
    let within : at + x < length cells = omega (arith, c.requires.run.at) in
    let own : line_of cells (at + x) ≡ line_of first (at + x) =
    c.loop-x.invariant.off (at + x) (inr (omega arith)) in
    let same : change_at s h.half (line_in h cells x) c.args.n
    ≡ change_at s h.half (line_in h first x) c.args.n =
    same_change s h.half (line_in h cells x) (line_in h first x) c.args.n c.args.n
    (λ j lt. c.loop-x.invariant.off _
    (beside_run _ at c.args.width x c.loop-x-test.true (c.requires.run.apart j lt))) in
    let sample = slice_index_or cells (c.place-at.result + x) (pos 0) in
    let fits : FitsSigned w32 sample = search rules in
    let here : sample ≡ line_of first (at + x) = ap (λ i. line_of cells (i + x)) is ∙ own in
    let made : v ≡ changed_by s.adds (line_of first (at + x))
    (change_at s h.half (line_in h first x) c.args.n) =
    to_z-of_z w32 c.changed_by.result (record { sfits = c.changed_by.type_inv })
    ∙ c.changed_by.ensures
    ∙ narrow_changed s.adds sample c.change_at-change.result fits
    (record { sfits = c.change_at-change.type_inv })
    ∙ ap (λ z. changed_by s.adds z c.change_at-change.result) here
    ∙ ap (changed_by s.adds (line_of first (at + x))) (c.change_at-change.ensures.value ∙ same) in
    let put = λ (i : ℕ). set cells (i + x) v in
    record {
      on = λ i lt. elim (cases_eq i x) [
        | inl e ↦ rw e (ap (λ p. line_of (put p) (at + x)) is
            ∙ get_or-set_same cells (at + x) v (pos 0) within ∙ made)
        | inr ne ↦ (let apart : at + i ≢ at + x = omega arith in ap (λ p. line_of (put p) (at + i)) is
            ∙ get_or-set_other cells (at + x) (at + i) v (pos 0) apart
            ∙ c.loop-x.invariant.on i (omega arith))
      ];
      off = λ i apart.
          ap (λ p. line_of (put p) i) is ∙ get_or-set_other cells (at + x) i v (pos 0) (past_run i at x apart)
          ∙ c.loop-x.invariant.off i (less_reached i at x apart);
    }

-- A part that isn't kept leaves its picture's book as it was.
use Rattle.std.proofs.Common.{◌≡◌, ℕ, zero, suc, ◌+◌, false, List, [], ◌∷◌, drop, Option, Some, None, Result, refl, ap, sym, ◌∙◌, arith, is_none, take-append-drop}
use Rattle.std.specs.List.{list_any, enumerate_from}
use Rattle.std.specs.Option.{option_or}
use Rattle.std.proofs.lemmas.Bool.{false≢true, or_parts}
use Rattle.link_model.specs.Books.{Slots, slot_at, Gathered, Book, filled_with, gathers_run, takes_slices, book_plan, known_by_book, book_takes, book_outcome}
use Rattle.link_model.specs.Judgement.{slices_outcome, run_outcome, is_new, keeps}
use Rattle.link_model.specs.Kept.{SliceRun, slice_run}
use Rattle.link_model.specs.Session.{Part, ParamsPart, SlicesPart, SlicePart}
use Rattle.link_model.specs.declared.outcome.Outcome.{Outcome}

-- a run without a new slice changes nothing; the slots at hand are those from a number on
same_from : (kept : ℕ → Option (List ℕ)) (slots : Slots) (slices : List (List ℕ)) (first : ℕ) → ((k : ℕ) → slot_at slots k ≡ kept (first + k))
    → list_any (is_new kept) (enumerate_from first slices) ≡ false → filled_with slots slices ≡ slots
same_from kept slots [] first at none = refl
same_from kept [] (slice ∷ slices) first at none = refl
same_from kept (slot ∷ slots) (slice ∷ slices) first at none =
    let parts = or_parts (is_none (kept first)) (list_any (is_new kept) (enumerate_from (first + 1) slices)) none in
    let here : kept first ≡ slot = ap kept (let e : first ≡ first + 0 = omega arith in e) ∙ sym (at 0) in
    ap (λ (o : Option (List ℕ)). o ∷ filled_with slots slices) (stays slot (ap is_none (sym here) ∙ parts.0))
    ∙ ap (λ (l : Slots). slot ∷ l) (same_from kept slots slices (first + 1) (λ k. at (suc k) ∙ ap kept (let e : first + suc k ≡ first + 1 + k = omega arith in e)) parts.1)
  where
    stays : (o : Option (List ℕ)) → is_none o ≡ false → option_or o (Some slice) ≡ o
    stays None e = absurd (false≢true (sym e))
    stays (Some bytes) e = refl

slot_behind : (slots : Slots) (first k : ℕ) → slot_at (drop first slots) k ≡ slot_at slots (first + k)
slot_behind slots zero k = let same : k ≡ 0 + k = omega arith in ap (slot_at slots) same
slot_behind [] (suc first) k = refl
slot_behind (slot ∷ slots) (suc first) k =
    slot_behind slots first k ∙ (let same : suc (first + k) ≡ suc first + k = omega arith in ap (slot_at (slot ∷ slots)) same)

module _ (book : Book) where
  run_unchanged : (g : Gathered) (r : Result SliceRun Outcome) → keeps (run_outcome (slot_at g.slots) r) ≡ false → gathers_run g r ≡ g
  run_unchanged g o e = grind (arith, same_from, slot_behind, take-append-drop)

  slices_unchanged : (slices : SlicePart) (o : Option Gathered) → book.gathered ≡ o → keeps (let b : Book = record book { gathered = o } in slices_outcome (known_by_book b) (book_plan b) slices) ≡ false → takes_slices o book slices ≡ book
  slices_unchanged slices None is e = grind arith
  slices_unchanged slices (Some g) is e =
      ap (λ (k : Gathered). let b : Book = record book { gathered = Some k } in b) (run_unchanged g (slice_run g.plan.parameters slices) e)
      ∙ ap (λ (o : Option Gathered). let b : Book = record book { gathered = o } in b) (sym is)

  pub unkept_changes_nothing : (part : Part) → keeps (book_outcome book part) ≡ false → book_takes book part ≡ book
  unfolding book_outcome book_takes
  unkept_changes_nothing (ParamsPart body) e = grind arith
  unkept_changes_nothing (SlicesPart slices) e = slices_unchanged slices book.gathered refl e

pub ruleset laws = (unkept_changes_nothing)

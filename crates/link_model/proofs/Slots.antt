-- The slots of a picture's slices: a run of slices fills those that it covers, and lies within the picture.
use Rattle.std.proofs.Common.{◌≡◌, ℕ, zero, suc, ◌+◌, ◌<◌, ◌≤◌, List, [], ◌∷◌, ◌++◌, length, map, take, drop, replicate, Option, Some, None, Result, Ok, refl, ap, sym, arith, le-leb}
use Rattle.std.specs.List.{range_with_len}
use Rattle.std.specs.Option.{option_or}
use Rattle.std.proofs.lemmas.Option.{slice_get_past}
use Rattle.link_model.specs.Books.{Slots, slot_at, filled_with, with_run}
use Rattle.link_model.specs.Kept.{Own, own, own_slice, SliceRun, runs_of, slice_run, slice_in, first_copy, next_slices}
use Rattle.link_model.specs.Session.{Part, SlicePart}
use Rattle.link_model.specs.declared.outcome.Outcome.{Outcome}
use Rattle.vc_types.specs.SequenceHeader.{Sequence}
use Rattle.vc_types.specs.Subbands.{slice_count}
use Rattle.vc_types.specs.TransformParameters.{Parameters}

pub or_none : (o : Option (List ℕ)) → option_or o None ≡ o
or_none None = refl
or_none (Some bytes) = refl

-- ---- slots that are a function of the slice's number

map_same : {X : Type 0} (f g : ℕ → X) (a n : ℕ) → ((i : ℕ) → a ≤ i → i < a + n → f i ≡ g i) → map f (range_with_len a n) ≡ map g (range_with_len a n)
map_same f g a zero same = refl
map_same {X = X} f g a (suc n) same = grind (arith, map_same f g (a + 1) n)

pub no_slots : (a n : ℕ) → map (λ i. None) (range_with_len a n) ≡ replicate {A = Option (List ℕ)} n None
no_slots a zero = refl
no_slots a (suc n) = ap (λ (l : Slots). None ∷ l) (no_slots (a + 1) n)

module _ (g : ℕ → Option (List ℕ)) where
  abbrev slots : ℕ → ℕ → Slots
  slots a n = map g (range_with_len a n)

  pub slot_inside : (a n i : ℕ) → i < n → slot_at (slots a n) i ≡ g (a + i)
  slot_inside a zero i below = absurd (omega arith)
  slot_inside a (suc n) zero below = let same : a ≡ a + 0 = omega arith in ap g same
  slot_inside a (suc n) (suc i) below = grind (arith, slot_inside (a + 1) n i (omega arith))

  pub slot_outside : (a n i : ℕ) → n ≤ i → slot_at (slots a n) i ≡ None
  slot_outside a zero i above = refl
  slot_outside a (suc n) zero above = absurd (omega arith)
  slot_outside a (suc n) (suc i) above = slot_outside (a + 1) n i (omega arith)

  -- what a run leaves in the slot of a slice
  abbrev pub with_slice : ℕ → List (List ℕ) → ℕ → Option (List ℕ)
  with_slice first slices i = option_or (g i) (slice_in (record { first = first; slices = slices }) i)

  before : (first : ℕ) (slices : List (List ℕ)) (i : ℕ) → i < first → with_slice first slices i ≡ g i
  before first slices i below = grind (arith, or_none)

  filled_here : (a n : ℕ) (slices : List (List ℕ)) → filled_with (slots a n) slices ≡ map (with_slice a slices) (range_with_len a n)
  filled_here a zero [] = refl
  filled_here a zero (slice ∷ slices) = refl
  filled_here a (suc n) [] = grind (arith, map_same, or_none)
  filled_here a (suc n) (slice ∷ slices) = grind (arith, le-leb, map_same, filled_here (a + 1) n slices)

  filled_from : (first a n : ℕ) (slices : List (List ℕ)) → take first (slots a n) ++ filled_with (drop first (slots a n)) slices ≡ map (with_slice (a + first) slices) (range_with_len a n)
  filled_from zero a n slices = grind (arith, filled_here)
  filled_from (suc first) a zero [] = refl
  filled_from (suc first) a zero (slice ∷ slices) = refl
  filled_from (suc first) a (suc n) slices = grind (arith, before, filled_from first (a + 1) n slices)

  pub with_run_is : (n : ℕ) (run : SliceRun) → with_run (slots 0 n) run ≡ map (λ i. option_or (g i) (slice_in run i)) (range_with_len 0 n)
  with_run_is n run = grind (arith, filled_from)

-- ---- runs lie within their picture

abbrev pub okay : {A : Type 0} → A → Result A (Unit {0})
okay x = Ok x

pub okay_is : {A : Type 0} (x y : A) → okay x ≡ okay y → x ≡ y
okay_is x y h = cc

abbrev pub taken : SliceRun → Result SliceRun Outcome
taken run = Ok run

pub taken_is : (x y : SliceRun) → taken x ≡ taken y → x ≡ y
taken_is x y h = cc

module _ (p : Parameters) where
  pub next_slices-count : (n : ℕ) (bytes : List ℕ) (x : List (List ℕ) × List ℕ) → next_slices p n bytes ≡ Ok x → length x.0 ≡ n
  unfolding next_slices
  next_slices-count zero bytes x e = ap (λ (x : List (List ℕ) × List ℕ). length x.0) (sym (okay_is ([], bytes) x e))
  next_slices-count (suc n) bytes x e = grind (arith, next_slices-count n)

  no_copy : (parts : List SlicePart) (i : ℕ) → slice_count p ≤ i → first_copy (runs_of p parts) i ≡ None
  unfolding first_copy slice_run
  no_copy [] i past = refl
  no_copy (part ∷ parts) i past =
      grind (arith, slice_get_past, no_copy parts i past, next_slices-count, taken_is)

module _ (s : Sequence) where
  -- no slice is kept past the picture's last
  pub own_slice_inside : (parts : List Part) (kept : Own) → own s parts ≡ Some kept → (i : ℕ) → slice_count kept.plan.parameters ≤ i → own_slice kept i ≡ None
  unfolding own
  own_slice_inside parts kept is = grind (arith, before, no_copy)

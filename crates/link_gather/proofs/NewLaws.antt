-- The slices that are new after a run are those of the run that weren't kept.
use Rattle.std.proofs.Common.{◌≡◌, ℕ, zero, suc, ◌+◌, ◌-◌, ◌<◌, ◌≤◌, Bool, false, List, [], ◌∷◌}
use Rattle.std.proofs.Common.{◌++◌, length, map, drop, replicate, Option, Some, None, refl, ap}
use Rattle.std.proofs.Common.{sym, ◌∙◌, inl, inr, arith, cond}
use Rattle.std.specs.Prelude.{◌==◌, ◌⊎◌, filter, filter_map, is_none, is_some, not, slice_get}
use Rattle.std.specs.List.{cons_option, enumerate_from, list_any, range_with_len}
use Rattle.std.specs.Option.{option_and_then, option_map, option_map_or, option_or}
use Rattle.std.proofs.lemmas.Bool.{cases_lt}
use Rattle.std.proofs.lemmas.List.{append_assoc, length-map, length-replicate}
use Rattle.std.proofs.lemmas.Option.{none-some}
use Rattle.link_model.specs.Books.{Slots, slot_at, filled_with, with_run, Gathered, Book, book_slice}
use Rattle.link_model.specs.Judgement.{is_new}
use Rattle.link_model.specs.Kept.{KeptParameters, SliceRun, slice_in}
use Rattle.link_model.proofs.Ranges.{range_step}
use Rattle.link_model.proofs.Slots.{or_none}
use Rattle.link_gather.specs.Filling.{cut_by, has_new, put_in, run_cut, slices_cut}
use Rattle.link_gather.specs.NewSlices.{PictureSlice, picture_slice, slice_at, new_in, new_slices}
use Rattle.link_gather.specs.NewSlices.{run_new, HasWholeSlots}
use Rattle.link_gather.proofs.FillingLaws.{put_length}
use Rattle.vc_types.specs.Slices.{slice_length}
use Rattle.vc_types.specs.Subbands.{slice_count}
use Rattle.vc_types.specs.TransformParameters.{Parameters}

-- ---- what stands in a slot

filled_slot : (slots : Slots) (slices : List (List ℕ)) (k : ℕ) → length slices ≤ length slots
    → slot_at (filled_with slots slices) k ≡ option_or (slot_at slots k) (slice_get slices k)
filled_slot slots [] k fits = sym (or_none (slot_at slots k))
filled_slot [] (slice ∷ slices) k fits = absurd (omega arith)
filled_slot (slot ∷ slots) (slice ∷ slices) zero fits = refl
filled_slot (slot ∷ slots) (slice ∷ slices) (suc k) fits =
    filled_slot slots slices k (omega arith)

run_slot : (slots : Slots) (first : ℕ) (slices : List (List ℕ)) (k : ℕ)
    → first + length slices ≤ length slots
    → slot_at (with_run slots (record { first = first; slices = slices })) k
    ≡ option_or (slot_at slots k) (slice_in (record { first = first; slices = slices }) k)
run_slot slots zero slices k fits = grind (arith, filled_slot)
run_slot [] (suc first) slices k fits = absurd (omega arith)
run_slot (slot ∷ slots) (suc first) slices zero fits = grind (arith, or_none)
run_slot (slot ∷ slots) (suc first) slices (suc k) fits =
    grind (arith, run_slot slots first slices k (omega arith))

put_slot : (slots : Slots) (i k : ℕ) (slice bytes : List ℕ)
    → slot_at (put_in slots i slice) k ≡ Some bytes
    → (slot_at slots k ≡ Some bytes) ⊎ (bytes ≡ slice)
put_slot [] i k slice bytes e = inl e
put_slot (None ∷ slots) zero zero slice bytes e = inr cc
put_slot (Some kept ∷ slots) zero zero slice bytes e = inl e
put_slot (slot ∷ slots) zero (suc k) slice bytes e = inl e
put_slot (slot ∷ slots) (suc i) zero slice bytes e = inl e
put_slot (slot ∷ slots) (suc i) (suc k) slice bytes e = put_slot slots i k slice bytes e

-- slots stay whole
pub put_whole : (p : Parameters) (slots : Slots) (i : ℕ) (slice : List ℕ)
    → HasWholeSlots p slots → slice_length p.prefix p.scaler slice ≡ Some (length slice)
    → HasWholeSlots p (put_in slots i slice)
put_whole p slots i slice whole one = record {
  count = put_length slots i slice ∙ whole.count;
  whole = λ k bytes e. elim (put_slot slots i k slice bytes e) [
    | inl there ↦ whole.whole k bytes there
    | inr new ↦ rw new one
  ];
}

-- whatever the slots have become
pub still_whole : (p : Parameters) (slots now : Slots) (i : ℕ) (slice : List ℕ)
    → HasWholeSlots p slots → slice_length p.prefix p.scaler slice ≡ Some (length slice)
    → now ≡ put_in slots i slice → HasWholeSlots p now
still_whole p slots now i slice whole one is = rw is (put_whole p slots i slice whole one)

pub none_there : (n i : ℕ) → slot_at (replicate {A = Option (List ℕ)} n None) i ≡ None
none_there zero i = refl
none_there (suc n) zero = refl
none_there (suc n) (suc i) = none_there n i

-- slots without a slice
pub empty_whole : (p : Parameters) (slots : Slots) → slots ≡ replicate (slice_count p) None
    → HasWholeSlots p slots
empty_whole p slots is = record {
  count = ap (λ (l : Slots). length l) is ∙ length-replicate (slice_count p) None;
  whole = λ i bytes e. absurd (none-some bytes (sym (none_there (slice_count p) i)
      ∙ ap (λ (l : Slots). slot_at l i) (sym is) ∙ e));
}

-- ---- numbers that give something

module _ {X : Type 0} where
  same_found : (f g : ℕ → Option X) (a n : ℕ)
      → ((k : ℕ) → a ≤ k → k < a + n → f k ≡ g k)
      → filter_map f (range_with_len a n) ≡ filter_map g (range_with_len a n)
  same_found f g a zero same = refl
  same_found f g a (suc n) same = grind (arith, same_found f g (a + 1) n)

  none_found : (f : ℕ → Option X) (a n : ℕ) → ((k : ℕ) → f k ≡ None)
      → filter_map f (range_with_len a n) ≡ []
  none_found f a zero none = refl
  none_found f a (suc n) none = grind (arith, none_found f (a + 1) n)

  -- those so far, and those of the others
  pub found_more : (f : ℕ → Option X) (l : List X) (i n : ℕ) → i < n
      → (l ++ cons_option (f i) []) ++ filter_map f (range_with_len (i + 1) (n - (i + 1)))
      ≡ l ++ filter_map f (range_with_len i (n - i))
  found_more f l i n below = rw (range_step i n below)
      (append_assoc l (cons_option (f i) []) _ ∙ ap (λ (r : List X). l ++ r) (one (f i) _))
    where
      one : (o : Option X) (rest : List X) → cons_option o [] ++ rest ≡ cons_option o rest
      one None rest = refl
      one (Some x) rest = refl

-- ---- a run

module _ (had : ℕ → Option (List ℕ)) (p : Parameters) where
  abbrev fresh : ℕ → List (List ℕ) → ℕ → Option PictureSlice
  fresh first slices k = cond (is_some (had k)) None
      (option_map (picture_slice p k) (slice_in (record { first = first; slices = slices }) k))

  abbrev as_slice : ℕ × List ℕ → PictureSlice
  as_slice s = picture_slice p s.0 s.1

  abbrev all_fresh : ℕ → List (List ℕ) → List PictureSlice
  all_fresh first slices = map as_slice (filter (is_new had) (enumerate_from first slices))

  no_slices : (first k : ℕ) → fresh first [] k ≡ None
  no_slices first k = grind arith

  later_slices : (first k : ℕ) (slice : List ℕ) (slices : List (List ℕ)) → first + 1 ≤ k
      → fresh first (slice ∷ slices) k ≡ fresh (first + 1) slices k
  later_slices first k slice slices later = grind arith

  here_slice : (first : ℕ) (slice : List ℕ) (slices : List (List ℕ))
      → fresh first (slice ∷ slices) first
      ≡ cond (is_some (had first)) None (Some (picture_slice p first slice))
  here_slice first slice slices = grind arith

  one_slice : (o : Option (List ℕ)) (first : ℕ) (slice : List ℕ) (rest : List (ℕ × List ℕ))
      → cons_option (cond (is_some o) None (Some (picture_slice p first slice)))
      (map as_slice rest) ≡ map as_slice (cond (is_none o) ((first, slice) ∷ rest) rest)
  one_slice None first slice rest = refl
  one_slice (Some bytes) first slice rest = refl

  from_first : (n first : ℕ) (slice : List ℕ) (slices : List (List ℕ))
      → filter_map (fresh (first + 1) slices) (range_with_len (first + 1) n)
      ≡ all_fresh (first + 1) slices
      → filter_map (fresh first (slice ∷ slices)) (range_with_len first (suc n))
      ≡ all_fresh first (slice ∷ slices)
  from_first n first slice slices rest =
      let later = fresh first (slice ∷ slices) in
      ap (λ (o : Option PictureSlice).
      cons_option o (filter_map later (range_with_len (first + 1) n))) (here_slice first slice slices)
      ∙ ap (cons_option (cond (is_some (had first)) None (Some (picture_slice p first slice))))
      (same_found later (fresh (first + 1) slices) (first + 1) n
      (λ k low below. later_slices first k slice slices low) ∙ rest)
      ∙ one_slice (had first) first slice (filter (is_new had) (enumerate_from (first + 1) slices))

  run_fresh : (a n first : ℕ) (slices : List (List ℕ)) → a ≤ first
      → first + length slices ≤ a + n
      → filter_map (fresh first slices) (range_with_len a n) ≡ all_fresh first slices
  run_fresh a n first [] low fits = none_found (fresh first []) a n (no_slices first)
  run_fresh a zero first (slice ∷ slices) low fits = absurd (omega arith)
  run_fresh a (suc n) first (slice ∷ slices) low fits = elim (cases_lt a first) [
    | inl before ↦ (let none : fresh first (slice ∷ slices) a ≡ None = grind arith in
        rw none (run_fresh (a + 1) n first (slice ∷ slices) (omega arith) (omega arith)))
    | inr here ↦ (let same : a ≡ first = omega arith in
        rw same (from_first n first slice slices
        (run_fresh (first + 1) n (first + 1) slices (omega arith) (omega arith))))
  ]

module _ (plan : KeptParameters) (slots : Slots) (run : SliceRun) where
  abbrev after : Gathered
  after = record { plan = plan; slots = with_run slots run }

  after_slot : run.first + length run.slices ≤ length slots → (k : ℕ)
      → cond (is_some (slot_at slots k)) None (slice_at after k)
      ≡ fresh (slot_at slots) plan.parameters run.first run.slices k
  after_slot fits k = by_slot (slot_at slots k) (run_slot slots run.first run.slices k fits)
    where
      by_slot : (o : Option (List ℕ))
          → slot_at (with_run slots run) k ≡ option_or o (slice_in run k)
          → cond (is_some o) None (slice_at after k)
          ≡ cond (is_some o) None (option_map (picture_slice plan.parameters k) (slice_in run k))
      by_slot None is = ap (option_map (picture_slice plan.parameters k)) is
      by_slot (Some bytes) is = refl

  pub run_brings : run.first + length run.slices ≤ length slots
      → length (with_run slots run) ≡ length slots
      → new_in (λ i. is_some (slot_at slots i)) after ≡ run_new plan.parameters slots run
  run_brings fits long =
      same_found (λ k. cond (is_some (slot_at slots k)) None (slice_at after k))
      (fresh (slot_at slots) plan.parameters run.first run.slices)
      0 (length after.slots) (λ k low below. after_slot fits k)
      ∙ run_fresh (slot_at slots) plan.parameters 0 (length after.slots) run.first run.slices
      (omega arith) (omega (arith, fits, long))

few : (p : Parameters) (n : ℕ) (bytes : List ℕ) → length (slices_cut p n bytes) ≤ n
few p zero bytes = omega arith
few p (suc n) bytes = by_length (slice_length p.prefix p.scaler bytes) (few p n)
  where
    by_length : (o : Option ℕ) → ((rest : List ℕ) → length (slices_cut p n rest) ≤ n)
        → length (cut_by (slices_cut p n) bytes o) ≤ suc n
    by_length None fewer = omega arith
    by_length (Some len) fewer = omega (arith, fewer (drop len bytes))

-- the slices that are cut off a part
pub cut_brings : (plan : KeptParameters) (old new : Slots) (first n : ℕ) (bytes : List ℕ)
    → HasWholeSlots plan.parameters old → HasWholeSlots plan.parameters new
    → first + n ≤ slice_count plan.parameters
    → new ≡ with_run old (run_cut plan.parameters first n bytes)
    → run_new plan.parameters old (run_cut plan.parameters first n bytes)
    ≡ new_in (λ i. is_some (slot_at old i)) (record { plan = plan; slots = new })
cut_brings plan old new first n bytes was are inside is =
    let p = plan.parameters in
    let run = run_cut p first n bytes in
    let long : length (with_run old run) ≡ length old =
    sym (ap (λ (l : Slots). length l) is) ∙ are.count ∙ sym was.count in
    sym (ap (λ (l : Slots). new_in (λ i. is_some (slot_at old i)) (record { plan = plan; slots = l })) is
    ∙ run_brings plan old run (omega (arith, few p n bytes, inside, was.count)) long)

-- where nothing changes, nothing is new
pub nothing_new : (g : Gathered) → [] ≡ new_in (λ i. is_some (slot_at g.slots i)) g
nothing_new g = sym (none_found (λ i. cond (is_some (slot_at g.slots i)) None (slice_at g i)) 0
    (length g.slots) (λ i. none (slot_at g.slots i) i))
  where
    none : (o : Option (List ℕ)) (i : ℕ)
        → cond (is_some o) None (option_map (picture_slice g.plan.parameters i) o) ≡ None
    none None i = refl
    none (Some bytes) i = refl

-- whether a run has some
module _ (p : Parameters) (slots : Slots) (run : SliceRun) where
  any_is : (f : ℕ × List ℕ → Bool) (l : List (ℕ × List ℕ))
      → not (length (filter f l) == 0) ≡ list_any f l
  any_is f [] = refl
  any_is f (x ∷ l) = grind (arith, any_is f l)

  pub some_new : {X : Type 0} (f : X → PictureSlice) (l : List X)
      → map f l ≡ run_new p slots run → not (length l == 0) ≡ has_new slots run
  some_new f l is = grind (arith, any_is, length-map)

-- ---- of a book

abbrev had_in : Option Gathered → ℕ → Bool
had_in o i = is_some (option_and_then (λ (g : Gathered). slot_at g.slots i) o)

module _ (book : Book) (g : Gathered) where
  pub first_brings : book.gathered ≡ None
      → new_in (λ i. false) g ≡ new_in (λ i. is_some (book_slice book i)) g
  first_brings none = ap (λ (o : Option Gathered). new_in (had_in o) g) (sym none)

  pub more_brings : (before : Gathered) → book.gathered ≡ Some before
      → new_in (λ i. is_some (slot_at before.slots i)) g
      ≡ new_in (λ i. is_some (book_slice book i)) g
  more_brings before was = ap (λ (o : Option Gathered). new_in (had_in o) g) (sym was)

pub same_brings : (book : Book) → [] ≡ new_slices book book
same_brings book = by_gathered book.gathered refl
  where
    by_gathered : (o : Option Gathered) → book.gathered ≡ o
        → [] ≡ option_map_or (new_in (λ i. is_some (book_slice book i))) o []
    by_gathered None is = refl
    by_gathered (Some g) is = nothing_new g ∙ more_brings book g g is

-- The book of a list of parts: with a part more it is the book of the longer list, and it answers the part's outcome, the
-- slices that are kept and the whole bytes.
use Rattle.std.proofs.Common.{◌≡◌, ℕ, ◌<◌, ◌≤◌, min, Bool, List, [], ◌∷◌, ◌++◌, length, map, take, Option, Some, None, Result, refl, ap, sym, ◌∙◌, inl, inr, arith, cond, filter_map, fold, nat_lt, unwrap_or, flat_map}
use Rattle.std.specs.Option.{option_map, option_and_then}
use Rattle.std.proofs.lemmas.Bool.{cases_lt, cond-true, cond-false, lt-ltb, le-ltb}
use Rattle.std.proofs.lemmas.List.{append-nil, append_assoc, length-take, length-append, take_all, take-append-le}
use Rattle.std.proofs.lemmas.List.Elements.{filter_map-append}
use Rattle.std.proofs.lemmas.List.Folds.{list_all-map}
use Rattle.std.proofs.lemmas.Option.{none-some}
use Rattle.link_model.specs.Complete.{has_all_slices, all_bytes, whole_picture}
use Rattle.link_model.specs.Books.{Slots, slot_at, Gathered, Book, nothing_gathered, gathers_run, gathers, takes_plan, waits_too, book_takes, book_outcome, gathered_of, book_by, book_of, book_slice, book_whole}
use Rattle.link_model.specs.Judgement.{known_by_parts, part_outcome, parameters_outcome, slices_outcome, run_outcome, waiting_outcome}
use Rattle.link_model.specs.Kept.{KeptParameters, parameters_in, SplitParts, split_parts, Own, own_of, own, own_slice, runs_of, run_taken, part_slices, SliceRun, first_copy, slice_run, waiting_limit}
use Rattle.link_model.specs.Session.{Part, ParamsPart, SlicesPart, SlicePart}
use Rattle.link_model.specs.declared.outcome.Outcome.{Outcome}
use Rattle.link_model.specs.declared.outcome.Outcome.TheVariants.{SlicesPending, SlicesFull}
use Rattle.link_model.proofs.Keeping.{own-append, first_copy-append}
use Rattle.link_model.proofs.Slots.{or_none, no_slots, slot_inside, slot_outside, with_run_is, own_slice_inside}
use Rattle.vc_types.specs.SequenceHeader.{Sequence}
use Rattle.vc_types.specs.Subbands.{slice_count}
use Rattle.vc_types.specs.TransformParameters.{coded_parameters}

-- ---- the first parameters

abbrev first_plan : List Part → KeptParameters → SplitParts
first_plan parts plan = record { plan = plan; before = filter_map part_slices parts; behind = [] }

abbrev first_kept : List Part → KeptParameters → Own
first_kept parts plan = record { plan = plan; runs = runs_of plan.parameters (take waiting_limit (filter_map part_slices parts)) }

module _ (s : Sequence) (part : Part) where
  split_parts-first : (parts : List Part) → split_parts s parts ≡ None → split_parts s (parts ++ part ∷ []) ≡ option_map (first_plan parts) (parameters_in s part)
  unfolding split_parts
  split_parts-first [] e = grind arith
  split_parts-first (p ∷ parts) e = grind (arith, split_parts-first parts)

  own-first : (parts : List Part) → own s parts ≡ None → own s (parts ++ part ∷ []) ≡ option_map (first_kept parts) (parameters_in s part)
  unfolding own
  own-first parts e = by_parted (split_parts s parts) refl e
    where
      kept : (o : Option KeptParameters) → option_map own_of (option_map (first_plan parts) o) ≡ option_map (first_kept parts) o
      kept None = refl
      kept (Some plan) = ap (λ (l : List SlicePart). Some (let k : Own = record { plan = plan; runs = runs_of plan.parameters l } in k)) (append-nil (take waiting_limit (filter_map part_slices parts)))

      by_parted : (old : Option SplitParts) → split_parts s parts ≡ old → option_map own_of old ≡ None → option_map own_of (split_parts s (parts ++ part ∷ [])) ≡ option_map (first_kept parts) (parameters_in s part)
      by_parted (Some p) is e = absurd (none-some (own_of p) (sym e))
      by_parted None is e = ap (option_map own_of) (split_parts-first parts is) ∙ kept (parameters_in s part)

-- ---- one part more

abbrev with_runs : Own → List SliceRun → Own
with_runs kept more = record { plan = kept.plan; runs = kept.runs ++ more }

-- what is gathered with a slice part more
gathers-one : (kept : Own) (r : Result SliceRun Outcome) → gathers_run (gathered_of kept) r ≡ gathered_of (with_runs kept (filter_map run_taken (r ∷ [])))
unfolding first_copy
gathers-one kept o = grind (arith, append-nil, with_run_is, first_copy-append, or_none)

-- and with several
gathers-all : (parts : List SlicePart) (kept : Own) → fold gathers (gathered_of kept) parts ≡ gathered_of (with_runs kept (runs_of kept.plan.parameters parts))
gathers-all [] kept = ap (λ (l : List SliceRun). gathered_of (let k : Own = record { plan = kept.plan; runs = l } in k)) (sym (append-nil kept.runs))
gathers-all (part ∷ parts) kept =
    let here = runs_of kept.plan.parameters (part ∷ []) in
    let rest = runs_of kept.plan.parameters parts in
    ap (λ (g : Gathered). fold gathers g parts) (gathers-one kept (slice_run kept.plan.parameters part))
    ∙ gathers-all parts (with_runs kept here)
    ∙ ap (λ (l : List SliceRun). gathered_of (let k : Own = record { plan = kept.plan; runs = l } in k))
    (append_assoc kept.runs here rest ∙ ap (λ (l : List SliceRun). kept.runs ++ l) (sym (filter_map-append (λ s. run_taken (slice_run kept.plan.parameters s)) (part ∷ []) parts)))

nothing_is : (plan : KeptParameters) → nothing_gathered plan ≡ gathered_of (record { plan = plan; runs = [] })
unfolding first_copy
nothing_is plan = ap (λ (l : Slots). let g : Gathered = record { plan = plan; slots = l } in g) (sym (no_slots 0 (slice_count plan.parameters)))

-- slices that wait
waits-more : (s : Sequence) (before : List SlicePart) (slices : SlicePart)
    → waits_too (let b : Book = record { sequence = s; waiting = take waiting_limit before; gathered = None } in b) slices ≡ (let b : Book = record { sequence = s; waiting = take waiting_limit (before ++ slices ∷ []); gathered = None } in b)
waits-more s before slices = elim (cases_lt (length before) waiting_limit) [
  | inl few ↦ (let all = take_all waiting_limit before (omega arith) in
      let room : length (take waiting_limit before) < waiting_limit = omega (arith, length-take waiting_limit before, few) in
      let fits : length (before ++ slices ∷ []) ≤ waiting_limit = omega (arith, length-append before (slices ∷ []), few) in
      cond-true (nat_lt (length (take waiting_limit before)) waiting_limit) (book (take waiting_limit before ++ slices ∷ [])) (book (take waiting_limit before)) (lt-ltb (length (take waiting_limit before)) waiting_limit room)
      ∙ ap book (ap (λ (l : List SlicePart). l ++ slices ∷ []) all ∙ sym (take_all waiting_limit (before ++ slices ∷ []) fits)))
  | inr many ↦ (let full : waiting_limit ≤ length (take waiting_limit before) = omega (arith, length-take waiting_limit before, many) in
      cond-false (nat_lt (length (take waiting_limit before)) waiting_limit) (book (take waiting_limit before ++ slices ∷ [])) (book (take waiting_limit before)) (le-ltb (length (take waiting_limit before)) waiting_limit full)
      ∙ ap book (sym (take-append-le waiting_limit before (slices ∷ []) many)))
]
  where
    book : List SlicePart → Book
    book l = record { sequence = s; waiting = l; gathered = None }

module _ (s : Sequence) (parts : List Part) where
  abbrev waiting_book : List SlicePart → Book
  waiting_book l = record { sequence = s; waiting = l; gathered = None }

  abbrev gathered_book : Gathered → Book
  gathered_book g = record { sequence = s; waiting = []; gathered = Some g }

  -- without parameters
  params_first : (body : List ℕ) (o : Option KeptParameters) → takes_plan (waiting_book (take waiting_limit (filter_map part_slices parts))) o ≡ book_by s (parts ++ ParamsPart body ∷ []) (option_map (first_kept parts) o)
  params_first body o = grind (arith, append-nil, filter_map-append, gathers-all, nothing_is)

  slices_wait : (slices : SlicePart) → waits_too (waiting_book (take waiting_limit (filter_map part_slices parts))) slices ≡ book_by s (parts ++ SlicesPart slices ∷ []) None
  slices_wait slices =
      waits-more s (filter_map part_slices parts) slices
      ∙ ap (λ (l : List SlicePart). waiting_book (take waiting_limit l)) (sym (filter_map-append part_slices parts (SlicesPart slices ∷ [])))

  -- the book of the parts with one more
  pub takes-more : (part : Part) → book_takes (book_of s parts) part ≡ book_of s (parts ++ part ∷ [])
  unfolding book_takes book_of parameters_in
  takes-more (ParamsPart body) = by_own (own s parts) refl
    where
      by_own : (o : Option Own) → own s parts ≡ o → book_takes (book_by s parts o) (ParamsPart body) ≡ book_by s (parts ++ ParamsPart body ∷ []) (own s (parts ++ ParamsPart body ∷ []))
      by_own None none = grind (arith, params_first, own-first)
      by_own (Some kept) some =
          ap (λ (l : List SliceRun). gathered_book (gathered_of (let k : Own = record { plan = kept.plan; runs = l } in k))) (sym (append-nil kept.runs))
          ∙ ap (book_by s (parts ++ ParamsPart body ∷ [])) (sym (own-append s parts (ParamsPart body ∷ []) kept some))
  takes-more (SlicesPart slices) = grind (arith, gathers-one, own-append, own-first, slices_wait)

  -- ---- its slices

  pub slot_is : (kept : Own) → own s parts ≡ Some kept → (i : ℕ) → slot_at (gathered_of kept).slots i ≡ own_slice kept i
  slot_is kept some i = grind (arith, own_slice_inside, slot_inside, slot_outside)

  pub book_slice_is : (i : ℕ) → book_slice (book_of s parts) i ≡ option_and_then (λ kept. own_slice kept i) (own s parts)
  unfolding book_of
  book_slice_is i = grind (arith, slot_is)

-- ---- outcomes

few_is : (n limit : ℕ) → nat_lt (min limit n) limit ≡ nat_lt n limit
few_is n limit = grind (arith, le-ltb)

module _ (s : Sequence) (parts : List Part) where
  plan_is : (o : Option Own) → option_map (λ (g : Gathered). g.plan) (option_map gathered_of o) ≡ option_map (λ (k : Own). k.plan) o
  plan_is None = refl
  plan_is (Some kept) = refl

  -- a book answers what its parts say
  pub book_outcome_is : (part : Part) → book_outcome (book_of s parts) part ≡ part_outcome s parts part
  unfolding book_outcome part_outcome book_of
  book_outcome_is (ParamsPart body) = ap (λ (p : Option KeptParameters). parameters_outcome p (coded_parameters s body)) (plan_is (own s parts))
  book_outcome_is (SlicesPart slices) = by_own (own s parts) refl
    where
      by_own : (o : Option Own) → own s parts ≡ o → book_outcome (book_by s parts o) (SlicesPart slices) ≡ slices_outcome (record (known_by_parts s parts) { slice = λ i. option_and_then (λ kept. own_slice kept i) o }) (option_map (λ (kept : Own). kept.plan) o) slices
      by_own None none =
          ap waiting_outcome (length-take waiting_limit (filter_map part_slices parts))
          ∙ ap (λ (b : Bool). cond b SlicesPending SlicesFull) (few_is (length (filter_map part_slices parts)) waiting_limit)
      by_own (Some kept) some = λ j. run_outcome (λ i. slot_is s parts kept some i j) (slice_run kept.plan.parameters slices)

-- ---- whole pictures

all_kept : (f : ℕ → Option (List ℕ)) (is : List ℕ) → flat_map (λ slot. unwrap_or slot []) (map f is) ≡ flat_map (λ i. unwrap_or (f i) []) is
all_kept f [] = refl
all_kept f (i ∷ is) = ap (λ (l : List ℕ). unwrap_or (f i) [] ++ l) (all_kept f is)

-- a book has its picture's whole bytes
pub book_whole_is : (s : Sequence) (parts : List Part) → book_whole (book_of s parts) ≡ whole_picture s parts
unfolding whole_picture has_all_slices all_bytes book_of
book_whole_is s parts = grind (arith, all_kept, list_all-map)

pub ruleset laws = (takes-more, book_slice_is, book_outcome_is, book_whole_is)

-- Slots filled slice by slice hold what a whole run leaves in them, and how many slices were cut.
use Rattle.std.proofs.Common.{◌≡◌, ℕ, zero, suc, ◌+◌, ◌-◌, ◌<◌, ◌≤◌, Bool, true, false, List, [], ◌∷◌, ◌++◌, length, take, drop, set, replicate, nat_eq, Option, Some, None, Result, Ok, Err, refl, ap, sym, ◌∙◌, arith, cond}
use Rattle.std.specs.Prelude.{is_ok, is_some, is_none, not, ◌||◌, unwrap_or, filter, map}
use Rattle.std.specs.List.{flat_map, list_any, list_all, count_by, enumerate_from}
use Rattle.std.specs.Option.{option_map_or}
use Rattle.std.specs.Str.{bytes_eq}
use Rattle.std.proofs.lemmas.Bool.{false≢true}
use Rattle.std.proofs.Math.Bool.{or-false}
use Rattle.std.proofs.lemmas.List.{take-append-drop, append_assoc, append-nil}
use Rattle.std.proofs.lemmas.List.Sums.{sum_by-cons, count_by-le-length}
use Rattle.std.proofs.lemmas.Option.{none-some}
use Rattle.link_model.specs.Books.{Slots, slot_at, filled_with, with_run}
use Rattle.link_model.specs.Judgement.{is_conflict, is_new}
use Rattle.link_model.specs.Kept.{SliceRun, cut_off, next_slice, next_slices, has_form, has_place, first_slice, run_from, slice_run}
use Rattle.link_model.specs.Session.{SlicePart}
use Rattle.link_model.specs.declared.outcome.Outcome.{Outcome}
use Rattle.link_model.specs.declared.outcome.Outcome.TheVariants.{SlicesForm, SlicesPlace, SlicesCut}
use Rattle.link_model.proofs.Slots.{okay_is}
use Rattle.link_gather.specs.Filling.{cut_by, slices_cut, run_cut, has_conflict, put_in, put_result, is_put_other, is_put_new}
use Rattle.link_gather.specs.NewSlices.{PictureSlice, picture_slice, run_new}
use Rattle.vc_types.specs.Fields.{and_then}
use Rattle.vc_types.specs.Slices.{slice_length}
use Rattle.vc_types.specs.TransformParameters.{Parameters}
use Rattle.vc_types.proofs.WholeSlices.{begins}

-- ---- cutting

pub cut_within : (prefix scaler len : ℕ) (bytes : List ℕ) → slice_length prefix scaler bytes ≡ Some len → len ≤ length bytes
cut_within prefix scaler len bytes e = (begins prefix scaler bytes len e).within

module _ (p : Parameters) where
  abbrev Cut : Type 0
  Cut = Result (List (List ℕ) × List ℕ) (Unit {0})

  abbrev with_rest : List ℕ → Cut → Cut
  with_rest slice r = and_then r (λ more. Ok (slice ∷ more.0, more.1))

  abbrev with_first : ℕ → Result (List ℕ × List ℕ) (Unit {0}) → Cut
  with_first n r = and_then r (λ read. with_rest read.0 (next_slices p n read.1))

  -- a slice more
  pub one_fits : (n len : ℕ) (bytes : List ℕ) → slice_length p.prefix p.scaler bytes ≡ Some len → is_ok (next_slices p (suc n) bytes) ≡ is_ok (next_slices p n (drop len bytes))
  unfolding next_slices next_slice
  one_fits n len bytes e = grind arith

  pub none_fits : (n : ℕ) (bytes : List ℕ) → slice_length p.prefix p.scaler bytes ≡ None → is_ok (next_slices p (suc n) bytes) ≡ false
  unfolding next_slices next_slice
  none_fits n bytes e = ap (λ (o : Option ℕ). is_ok (with_first n (cut_off bytes o))) e

  pub no_more : (bytes : List ℕ) → is_ok (next_slices p 0 bytes) ≡ true
  unfolding next_slices
  no_more bytes = refl

  pub slices_are_cut : (n : ℕ) (bytes : List ℕ) (x : List (List ℕ) × List ℕ) → next_slices p n bytes ≡ Ok x → slices_cut p n bytes ≡ x.0
  unfolding next_slices next_slice
  slices_are_cut zero bytes x e = ap (λ (x : List (List ℕ) × List ℕ). x.0) (okay_is ([], bytes) x e)
  slices_are_cut (suc n) bytes x e = grind (arith, slices_are_cut n)

  -- the same, of a number that is counted down
  pub fits_more : (n len : ℕ) (bytes : List ℕ) → 0 < n → slice_length p.prefix p.scaler bytes ≡ Some len → is_ok (next_slices p (n - 1) (drop len bytes)) ≡ is_ok (next_slices p n bytes)
  fits_more zero len bytes some e = absurd (omega arith)
  fits_more (suc n) len bytes some e = let same : suc n - 1 ≡ n = omega arith in ap (λ k. is_ok (next_slices p k (drop len bytes))) same ∙ sym (one_fits n len bytes e)

  pub fits_none : (n : ℕ) (bytes : List ℕ) → 0 < n → slice_length p.prefix p.scaler bytes ≡ None → is_ok (next_slices p n bytes) ≡ false
  fits_none zero bytes some e = absurd (omega arith)
  fits_none (suc n) bytes some e = none_fits n bytes e

  -- ---- a part's run

  module _ (part : SlicePart) where
    abbrev read_run : Result SliceRun Outcome
    read_run = run_from (first_slice p part) (next_slices p part.count part.body)

    abbrev run_by : Bool → Bool → Result SliceRun Outcome
    run_by form place = cond (not form) (Err SlicesForm) (cond (not place) (Err SlicesPlace) read_run)

    pub not_form : has_form p part ≡ false → slice_run p part ≡ Err SlicesForm
    unfolding slice_run
    not_form form = ap (λ (b : Bool). run_by b (has_place p part)) form

    pub not_place : has_form p part ≡ true → has_place p part ≡ false → slice_run p part ≡ Err SlicesPlace
    unfolding slice_run
    not_place form place = ap (λ (b : Bool). run_by b (has_place p part)) form ∙ ap (run_by true) place

    pub not_whole : has_form p part ≡ true → has_place p part ≡ true → is_ok (next_slices p part.count part.body) ≡ false → slice_run p part ≡ Err SlicesCut
    unfolding slice_run
    not_whole form place cut = grind arith

    pub run_taken : has_form p part ≡ true → has_place p part ≡ true → is_ok (next_slices p part.count part.body) ≡ true → slice_run p part ≡ Ok (run_cut p (first_slice p part) part.count part.body)
    unfolding slice_run
    run_taken form place whole = grind (arith, slices_are_cut)

-- ---- one slice

pub put_length : (slots : Slots) (i : ℕ) (slice : List ℕ) → length (put_in slots i slice) ≡ length slots
put_length [] i slice = refl
put_length (slot ∷ slots) zero slice = refl
put_length (slot ∷ slots) (suc i) slice = ap (λ k. suc k) (put_length slots i slice)

pub put_elsewhere : (slots : Slots) (i k : ℕ) (slice : List ℕ) → i < k → slot_at (put_in slots i slice) k ≡ slot_at slots k
put_elsewhere [] i k slice later = refl
put_elsewhere (slot ∷ slots) zero zero slice later = absurd (omega arith)
put_elsewhere (slot ∷ slots) zero (suc k) slice later = refl
put_elsewhere (slot ∷ slots) (suc i) zero slice later = absurd (omega arith)
put_elsewhere (slot ∷ slots) (suc i) (suc k) slice later = put_elsewhere slots i k slice (omega arith)

pub put_first : (slots : Slots) (i : ℕ) (slice : List ℕ) (slices : List (List ℕ)) → i < length slots
    → with_run slots (record { first = i; slices = slice ∷ slices }) ≡ with_run (put_in slots i slice) (record { first = suc i; slices = slices })
put_first [] i slice slices below = absurd (omega arith)
put_first (slot ∷ slots) zero slice slices below = refl
put_first (slot ∷ slots) (suc i) slice slices below = ap (λ (l : Slots). slot ∷ l) (put_first slots i slice slices (omega arith))

module _ (old : Slots) (i : ℕ) (slice : List ℕ) where
  abbrev now : Slots
  now = put_in old i slice

  conflicts_later : (first : ℕ) (slices : List (List ℕ)) → i < first → list_any (is_conflict (slot_at now)) (enumerate_from first slices) ≡ list_any (is_conflict (slot_at old)) (enumerate_from first slices)
  conflicts_later first [] later = refl
  conflicts_later first (s ∷ slices) later =
      grind (arith, put_elsewhere, conflicts_later (first + 1) slices (omega arith))

  new_later : (first : ℕ) (slices : List (List ℕ)) → i < first
      → filter (is_new (slot_at now)) (enumerate_from first slices)
      ≡ filter (is_new (slot_at old)) (enumerate_from first slices)
  new_later first [] later = refl
  new_later first (s ∷ slices) later =
      grind (arith, put_elsewhere, new_later (first + 1) slices (omega arith))

  pub conflict_first : (slices : List (List ℕ)) → has_conflict old (record { first = i; slices = slice ∷ slices }) ≡ (is_conflict (slot_at old) (i, slice) || has_conflict now (record { first = i + 1; slices = slices }))
  conflict_first slices = ap (λ (b : Bool). is_conflict (slot_at old) (i, slice) || b) (sym (conflicts_later (i + 1) slices (omega arith)))

  module _ (p : Parameters) where
    abbrev one_if_new : List PictureSlice
    one_if_new = cond (is_new (slot_at old) (i, slice)) (picture_slice p i slice ∷ []) []

    split_new : (b : Bool) (rest : List (ℕ × List ℕ))
        → map (λ (s : ℕ × List ℕ). picture_slice p s.0 s.1) (cond b ((i, slice) ∷ rest) rest)
        ≡ cond b (picture_slice p i slice ∷ []) []
        ++ map (λ (s : ℕ × List ℕ). picture_slice p s.0 s.1) rest
    split_new true rest = refl
    split_new false rest = refl

    pub new_first : (slices : List (List ℕ))
        → run_new p old (record { first = i; slices = slice ∷ slices })
        ≡ one_if_new ++ run_new p now (record { first = i + 1; slices = slices })
    new_first slices = rw (new_later (i + 1) slices (omega arith))
        (split_new (is_new (slot_at old) (i, slice)) (filter (is_new (slot_at old)) (enumerate_from (i + 1) slices)))

-- ---- how many slots have a slice

kept_cons : (slot : Option (List ℕ)) (slots : Slots) → count_by is_some (slot ∷ slots) ≡ cond (is_some slot) 1 0 + count_by is_some slots
kept_cons slot slots = sum_by-cons (λ x. cond (is_some x) 1 0) slot slots

pub kept_more : (slots : Slots) (i : ℕ) (slice : List ℕ) → i < length slots → slot_at slots i ≡ None → count_by is_some (set slots i (Some slice)) ≡ count_by is_some slots + 1
kept_more [] i slice below none = absurd (omega arith)
kept_more (None ∷ slots) zero slice below none =
    let old : count_by is_some (None ∷ slots) ≡ 0 + count_by is_some slots = kept_cons None slots in
    let e : 1 + count_by is_some slots ≡ count_by is_some (None ∷ slots) + 1 = omega (arith, old) in
    kept_cons (Some slice) slots ∙ e
kept_more (Some bytes ∷ slots) zero slice below none = absurd (none-some bytes (sym none))
kept_more (slot ∷ slots) (suc i) slice below none =
    let old : count_by is_some (slot ∷ slots) ≡ cond (is_some slot) 1 0 + count_by is_some slots = kept_cons slot slots in
    let e : cond (is_some slot) 1 0 + (count_by is_some slots + 1) ≡ count_by is_some (slot ∷ slots) + 1 = omega (arith, old) in
    kept_cons slot (set slots i (Some slice))
    ∙ ap (λ k. cond (is_some slot) 1 0 + k) (kept_more slots i slice (omega arith) none)
    ∙ e

pub put_kept : (slots : Slots) (i : ℕ) (slice bytes : List ℕ) → slot_at slots i ≡ Some bytes → put_in slots i slice ≡ slots
put_kept [] i slice bytes some = refl
put_kept (None ∷ slots) zero slice bytes some = absurd (none-some bytes some)
put_kept (Some kept ∷ slots) zero slice bytes some = refl
put_kept (slot ∷ slots) (suc i) slice bytes some = ap (λ (l : Slots). slot ∷ l) (put_kept slots i slice bytes some)

pub all_kept : (slots : Slots) → count_by is_some slots ≡ length slots → list_all is_some slots ≡ true
all_kept [] e = refl
all_kept (None ∷ slots) e = grind (arith, count_by-le-length)
all_kept (Some bytes ∷ slots) e =
    let one : count_by is_some (Some bytes ∷ slots) ≡ 1 + count_by is_some slots = kept_cons (Some bytes) slots in
    let all : count_by is_some (Some bytes ∷ slots) ≡ suc (length slots) = e in
    let rest : count_by is_some slots ≡ length slots = omega (arith, one, all) in
    all_kept slots rest

pub kept_all : (slots : Slots) → list_all is_some slots ≡ true → count_by is_some slots ≡ length slots
kept_all [] e = refl
kept_all (None ∷ slots) e = absurd (false≢true e)
kept_all (Some bytes ∷ slots) e =
    let rest : count_by is_some slots ≡ length slots = kept_all slots e in
    let more : 1 + count_by is_some slots ≡ suc (length slots) = omega (arith, rest) in
    kept_cons (Some bytes) slots ∙ more

pub full_is : (slots : Slots) (kept len : ℕ) → kept ≡ count_by is_some slots → len ≡ length slots → nat_eq kept len ≡ list_all is_some slots
full_is slots kept len is long = grind (arith, all_kept, kept_all)

pub none_kept : (T : Type 0) (n : ℕ) → count_by (is_some {T = T}) (replicate n None) ≡ 0
none_kept T zero = refl
none_kept T (suc n) = grind (arith, none_kept T n)

-- ---- the bytes of the slices that came

abbrev pub slots_bytes : Slots → List ℕ
slots_bytes slots = flat_map (λ slot. unwrap_or slot []) slots

pub bytes_from : (slots : Slots) (i : ℕ) → i < length slots → slots_bytes (drop i slots) ≡ unwrap_or (slot_at slots i) [] ++ slots_bytes (drop (i + 1) slots)
bytes_from [] i below = absurd (omega arith)
bytes_from (slot ∷ slots) zero below = refl
bytes_from (slot ∷ slots) (suc i) below = grind (arith, bytes_from slots i (omega arith))

-- ---- a whole run, slice by slice

module _ (p : Parameters) (slots : Slots) (i : ℕ) (rest : List ℕ) where
  -- nothing is left to do
  module _ (n : ℕ) (none : slices_cut p n rest ≡ []) where
    pub run_none : with_run slots (run_cut p i n rest) ≡ slots
    run_none = ap (λ (l : List (List ℕ)). take i slots ++ filled_with (drop i slots) l) none ∙ take-append-drop i slots

    pub conflict_none : (b : Bool) → (b || has_conflict slots (run_cut p i n rest)) ≡ b
    conflict_none b = ap (λ (l : List (List ℕ)). b || list_any (is_conflict (slot_at slots)) (enumerate_from i l)) none ∙ or-false b

    pub new_none : (l : List PictureSlice) → l ++ run_new p slots (run_cut p i n rest) ≡ l
    new_none l = rw none (append-nil l)

  pub none_left : (n : ℕ) → n ≡ 0 → slices_cut p n rest ≡ []
  none_left n e = ap (λ k. slices_cut p k rest) e

  pub none_cut : (n : ℕ) → 0 < n → slice_length p.prefix p.scaler rest ≡ None → slices_cut p n rest ≡ []
  none_cut zero some e = absurd (omega arith)
  none_cut (suc n) some e = ap (cut_by (slices_cut p n) rest) e

  -- one slice, and what is left then
  module _ (len : ℕ) (inside : i < length slots) (cut : slice_length p.prefix p.scaler rest ≡ Some len) (n m : ℕ) (size : suc m ≡ n) where
    abbrev one : List ℕ
    one = take len rest

    abbrev behind : List (List ℕ)
    behind = slices_cut p m (drop len rest)

    cut_is : one ∷ behind ≡ slices_cut p n rest
    cut_is = sym (ap (cut_by (slices_cut p m) rest) cut) ∙ ap (λ k. slices_cut p k rest) size

    pub run_step : with_run (put_in slots i one) (run_cut p (i + 1) m (drop len rest)) ≡ with_run slots (run_cut p i n rest)
    run_step = grind (arith, put_first)

    pub conflict_step : (b : Bool) → ((b || is_conflict (slot_at slots) (i, one)) || has_conflict (put_in slots i one) (run_cut p (i + 1) m (drop len rest))) ≡ (b || has_conflict slots (run_cut p i n rest))
    conflict_step b = grind (arith, conflict_first)

    pub new_step : (l : List PictureSlice)
        → (l ++ cond (is_new (slot_at slots) (i, one)) (picture_slice p i one ∷ []) [])
        ++ run_new p (put_in slots i one) (run_cut p (i + 1) m (drop len rest))
        ≡ l ++ run_new p slots (run_cut p i n rest)
    new_step l = append_assoc l _ _
        ∙ ap (λ (r : List PictureSlice). l ++ r) (sym (new_first slots i one p behind)
        ∙ ap (λ (s : List (List ℕ)). run_new p slots (record { first = i; slices = s })) cut_is)

  -- the slices up to an end
  pub left_none : (end : ℕ) → end ≤ i → slices_cut p (end - i) rest ≡ []
  left_none end over = none_left (end - i) (omega arith)

  pub left_cut : (end : ℕ) → i < end → slice_length p.prefix p.scaler rest ≡ None → slices_cut p (end - i) rest ≡ []
  left_cut end below none = none_cut (end - i) (omega arith) none

  -- one slice is put into its slot, and the others are left
  module _ (end len : ℕ) (below : i < end) (inside : i < length slots) (cut : slice_length p.prefix p.scaler rest ≡ Some len)
      (slice left : List ℕ) (front : slice ≡ take len rest) (behind : left ≡ drop len rest) (now : Slots) (put : now ≡ put_in slots i slice) where
    size : suc (end - (i + 1)) ≡ end - i
    size = omega arith

    put_one : now ≡ put_in slots i (take len rest)
    put_one = put ∙ ap (put_in slots i) front

    pub run_goes_on : with_run now (run_cut p (i + 1) (end - (i + 1)) left) ≡ with_run slots (run_cut p i (end - i) rest)
    run_goes_on =
        ap (λ (l : List ℕ). with_run now (run_cut p (i + 1) (end - (i + 1)) l)) behind
        ∙ ap (λ (s : Slots). with_run s (run_cut p (i + 1) (end - (i + 1)) (drop len rest))) put_one
        ∙ run_step len inside cut (end - i) (end - (i + 1)) size

    pub conflict_goes_on : (b seen : Bool) → seen ≡ (b || is_conflict (slot_at slots) (i, slice))
        → (seen || has_conflict now (run_cut p (i + 1) (end - (i + 1)) left)) ≡ (b || has_conflict slots (run_cut p i (end - i) rest))
    conflict_goes_on b seen is =
        ap (λ (l : List ℕ). seen || has_conflict now (run_cut p (i + 1) (end - (i + 1)) l)) behind
        ∙ ap (λ (s : Slots). seen || has_conflict s (run_cut p (i + 1) (end - (i + 1)) (drop len rest))) put_one
        ∙ ap (λ (b : Bool). b || has_conflict (put_in slots i (take len rest)) (run_cut p (i + 1) (end - (i + 1)) (drop len rest)))
        (is ∙ ap (λ (l : List ℕ). b || is_conflict (slot_at slots) (i, l)) front)
        ∙ conflict_step len inside cut (end - i) (end - (i + 1)) size b

    pub new_goes_on : (l seen : List PictureSlice)
        → seen ≡ l ++ cond (is_new (slot_at slots) (i, slice)) (picture_slice p i slice ∷ []) []
        → seen ++ run_new p now (run_cut p (i + 1) (end - (i + 1)) left) ≡ l ++ run_new p slots (run_cut p i (end - i) rest)
    new_goes_on l seen is =
        ap (λ (r : List ℕ). seen ++ run_new p now (run_cut p (i + 1) (end - (i + 1)) r)) behind
        ∙ ap (λ (s : Slots). seen ++ run_new p s (run_cut p (i + 1) (end - (i + 1)) (drop len rest))) put_one
        ∙ ap (λ (l : List PictureSlice). l ++ run_new p (put_in slots i (take len rest)) (run_cut p (i + 1) (end - (i + 1)) (drop len rest)))
        (is ∙ ap (λ (r : List ℕ). l ++ cond (is_new (slot_at slots) (i, r)) (picture_slice p i r ∷ []) []) front)
        ∙ new_step len inside cut (end - i) (end - (i + 1)) size l

-- what becomes of a slice, in words
pub other_is : (o : Option (List ℕ)) (i : ℕ) (slice : List ℕ) → is_put_other (put_result o slice) ≡ option_map_or (λ bytes. not (bytes_eq bytes slice)) o false
other_is None i slice = refl
other_is (Some bytes) i slice = grind arith

pub fresh_is : (o : Option (List ℕ)) (i : ℕ) (slice : List ℕ) → is_put_new (put_result o slice) ≡ is_none o
fresh_is None i slice = refl
fresh_is (Some bytes) i slice = grind arith

pub ruleset cutting = (cut_within, fits_more, fits_none, no_more)

pub ruleset runs = (not_form, not_place, not_whole, run_taken)

-- Pictures that are heard one after another, each whole before the next: how they are numbered, and what is entered of each.
use Rattle.std.proofs.Common.{◌≡◌, ◌<◌, ◌≤◌, ℕ, zero, suc, ◌+◌, ◌-◌, ◌%◌, ◌^◌, Bool, true, false, cond, List, [], ◌∷◌, ◌++◌, length, map, Some, refl, sym, ap, ◌∙◌, subst, arith, All, inl, inr, ◌⊎◌, fold, get_or, slice_get, append_assoc, append-nil, filter_map, count_by, length-append}
use Rattle.std.specs.List.{flat_map, range_with_len}
use Rattle.std.proofs.lemmas.Bool.{lt-leb, cases_Bool, eq-eqb}
use Rattle.std.proofs.lemmas.Grind.{common_steps}
use Rattle.std.proofs.lemmas.List.Elements.{All-head, All-nil, All-tail, filter_map-append}
use Rattle.std.proofs.lemmas.List.Sums.{fold-append, sum_by-cons}
use Rattle.std.proofs.lemmas.Option.{none-some, same_Some, slice_get-get_or}
use Rattle.link_laws.proofs.Among.{among_all, among_from, All-front}
use Rattle.link_laws.proofs.EnteredNumbers.{IsEntry, first_number, none_greatest, not_late, number_behind, other_part, own_part, unopened, IsSentFragment, all_added, number_by}
use Rattle.link_model.specs.Numbers.{Numbered, enters, entered, greatest, has_parts, is_closed, is_late, opened_numbers, parts_of, picture_number}
use Rattle.link_model.specs.Sending.{number_bits}
use Rattle.link_model.specs.Session.{Part, Fragment}
use Rattle.link_model.proofs.Leaving.{one, opened-over, past}
use Rattle.link_model.proofs.Ranges.{in_longer}
use Rattle.link_model.proofs.Numbering.{early_enters, greatest_one, greatest-append, parts_of-append, late_changes_nothing, parts_of-other}
use Rattle.vc_types.specs.SenderSettings.{Sending}
use Rattle.link_laws.specs.HeardStreams.{is_slices_of}
use Rattle.link_model.specs.Kept.{part_slices}

-- ---- pictures one after another

-- ---- entries of pictures

-- those of one picture
abbrev pub entries_of : ℕ → List Part → List Numbered
entries_of n parts = map (λ part. record { number = n; part = part }) parts

-- and of pictures with neighbouring numbers
abbrev pub entries_from : ℕ → List (List Part) → List Numbered
entries_from n [] = []
entries_from n (parts ∷ pictures) = entries_of n parts ++ entries_from (n + 1) pictures

-- each picture has a part
abbrev pub HasParts : List Part → Type 0
HasParts parts = 1 ≤ length parts

own_parts : (n : ℕ) (parts : List Part) → parts_of n (entries_of n parts) ≡ parts
own_parts n [] = unopened n
own_parts n (part ∷ parts) = own_part n (record { number = n; part = part }) (entries_of n parts) refl ∙ ap (λ (l : List Part). part ∷ l) (own_parts n parts)

others_parts : (n m : ℕ) (parts : List Part) → (m ≡ n → ⊥) → parts_of n (entries_of m parts) ≡ []
others_parts n m [] apart = unopened n
others_parts n m (part ∷ parts) apart = other_part n (record { number = m; part = part }) (entries_of m parts) apart ∙ others_parts n m parts apart

later_parts : (n m : ℕ) (pictures : List (List Part)) → n < m → parts_of n (entries_from m pictures) ≡ []
later_parts n m [] below = unopened n
later_parts n m (parts ∷ pictures) below =
    grind (arith, parts_of-append, others_parts, later_parts n (m + 1) pictures (omega (arith, below)))

-- the parts of a picture
pub parts_in : (n : ℕ) (pictures : List (List Part)) (j : ℕ) (parts : List Part) → slice_get pictures j ≡ Some parts → parts_of (n + j) (entries_from n pictures) ≡ parts
parts_in n [] j parts at = absurd (none-some parts at)
parts_in n (own ∷ pictures) zero parts at =
    let here : n + 0 ≡ n = omega arith in
    grind (arith, append-nil, later_parts, own_parts, parts_of-append, same_Some)
parts_in n (own ∷ pictures) (suc j) parts at =
    grind (arith, parts_of-append, others_parts, parts_in (n + 1) pictures j parts at)

-- ---- the pictures that are opened

parts_beyond : (k n : ℕ) (pictures : List (List Part)) → n + length pictures ≤ k → parts_of k (entries_from n pictures) ≡ []
parts_beyond k n [] beyond = unopened k
parts_beyond k n (parts ∷ pictures) beyond =
    grind (arith, parts_of-append, others_parts, parts_beyond k (n + 1) pictures (omega (arith, beyond)))

module _ (n : ℕ) (pictures : List (List Part)) (some : All HasParts pictures) where
  abbrev entries : List Numbered
  entries = entries_from n pictures

  unopened_outside : (k : ℕ) → (k < n) ⊎ (n + length pictures ≤ k) → one entries k ≡ []
  unopened_outside k h1 = grind (arith, later_parts, parts_beyond)

  has_some : (parts : List Part) → HasParts parts → has_parts parts ≡ true
  has_some parts are = grind arith

  opened_at : (j : ℕ) → j < length pictures → one entries (n + j) ≡ (n + j) ∷ []
  opened_at j below =
      let own : List Part = get_or pictures j [] in
      let at = slice_get-get_or pictures j [] below in
      let opened = ap has_parts (parts_in n pictures j own at) ∙ has_some own (among_all HasParts own pictures some (among_from own pictures j at)) in
      ap (λ (b : Bool). cond b ((n + j) ∷ []) []) opened

  each_of : (a m : ℕ) → n ≤ a → a + m ≤ n + length pictures → flat_map (one entries) (range_with_len a m) ≡ range_with_len a m
  each_of a zero above below = refl
  each_of a (suc m) above below =
      let place : n + (a - n) ≡ a = omega (arith, above) in
      let here : one entries a ≡ a ∷ [] = subst (λ (k : ℕ). one entries k ≡ k ∷ []) place (opened_at (a - n) (omega (arith, above, below))) in
      (λ i. here i ++ each_of (a + 1) m (omega (arith, above)) (omega (arith, below)) i)

  pub opened_in_order : opened_numbers entries ≡ range_with_len n (length pictures)
  opened_in_order =
      let long : past entries + (n + length pictures) ≡ n + length pictures + past entries = omega arith in
      opened-over entries (n + length pictures + past entries) (n + length pictures) long
      ∙ sym (in_longer (one entries) n (length pictures) (past entries) unopened_outside)
      ∙ each_of n (length pictures) (omega arith) (omega arith)

-- ---- what is entered

module _ (s : Sending) where
  abbrev pub fragment_of : ℕ → Part → Fragment
  fragment_of j part = record { number = number_bits s j; part = part }

  abbrev pub fragments_of : ℕ → List Part → List Fragment
  fragments_of j parts = map (fragment_of j) parts

  abbrev pub fragments_from : ℕ → List (List Part) → List Fragment
  fragments_from j [] = []
  fragments_from j (parts ∷ pictures) = fragments_of j parts ++ fragments_from (j + 1) pictures

  -- the receiver's number of the first picture
  abbrev pub first : ℕ
  first = 2 ^ 32 + number_bits s 0

  pub first_bits : first % 2 ^ 32 ≡ s.picture % 2 ^ 32
  first_bits = omega arith

  abbrev AnyPart : ℕ → Part → Type 0
  AnyPart j part = Unit {0}

  abbrev IsOwn : Numbered → Type 0
  IsOwn e = IsEntry s AnyPart first e

  -- what is entered before a part of a picture
  record IsBefore (j : ℕ) (es : List Numbered) : Type 0 where
    all : All IsOwn es
    top : greatest es ≤ first + j
    starts : (1 ≤ length es) ⊎ (j ≡ 0)

  abbrev entry : ℕ → Part → Numbered
  entry j part = record { number = first + j; part = part }

  module _ (window : ℕ) (some : 1 ≤ window) where
    number_now : (j : ℕ) (es : List Numbered) → j < 2 ^ 31 → IsBefore j es → picture_number (2 ^ 32) es (number_bits s j) ≡ first + j
    number_now j [] few before = grind (arith, first_number)
    number_now j (e ∷ es) few before = number_behind s AnyPart (2 ^ 32) first j e es first_bits before.all few

    early : (j : ℕ) (es : List Numbered) → j < 2 ^ 31 → IsBefore j es → is_late window es (first + j) ≡ false
    unfolding is_closed
    early j es few before = not_late window es (first + j) (lt-leb (first + j + window) (greatest es) (omega (arith, before.top, some))) (omega (arith, few))

    record HasEntered (j : ℕ) (es : List Numbered) (parts : List Part) : Type 0 where
      is : fold (enters (2 ^ 32) window) es (fragments_of j parts) ≡ es ++ entries_of (first + j) parts
      before : IsBefore j (es ++ entries_of (first + j) parts)

    one_enters : (j : ℕ) (es : List Numbered) (parts : List Part) → j < 2 ^ 31 → IsBefore j es → HasEntered j es parts
    one_enters j es [] few before = record { is = sym (append-nil es); before = subst (IsBefore j) (sym (append-nil es)) before }
    one_enters j es (part ∷ parts) few before =
        grind (
          arith,
          append_assoc,
          one_enters j (es ++ entry j part ∷ []) parts few (grind (arith, common_steps, greatest-append, greatest_one)),
          early,
          early_enters,
          number_now,
        )

    with_some : (es : List Numbered) (n : ℕ) (parts : List Part) → HasParts parts → 1 ≤ length (es ++ entries_of n parts)
    with_some es n parts are = grind (arith, common_steps)

    next : (j : ℕ) → first + j + 1 ≡ first + (j + 1)
    next j = omega arith

    all_enter : (j : ℕ) (es : List Numbered) (pictures : List (List Part)) → All HasParts pictures → j + length pictures ≤ 2 ^ 31 → IsBefore j es
        → fold (enters (2 ^ 32) window) es (fragments_from j pictures) ≡ es ++ entries_from (first + j) pictures
    all_enter j es [] are few before = sym (append-nil es)
    all_enter j es (parts ∷ pictures) are few before =
        let own = one_enters j es parts (omega (arith, few)) before in
        let now : List Numbered = es ++ entries_of (first + j) parts in
        let rest = all_enter (j + 1) now pictures (All-tail HasParts parts pictures are) (omega (arith, few))
        (record { all = own.before.all; top = omega (arith, own.before.top); starts = inl (with_some es (first + j) parts (All-head HasParts parts pictures are)) }) in
        grind (arith, append_assoc, fold-append, next)

    none_before : IsBefore 0 []
    none_before = record { all = All-nil IsOwn; top = omega (arith, none_greatest); starts = inr refl }

    -- whole pictures one after another
    pub entered_in_order : (pictures : List (List Part)) → All HasParts pictures → length pictures ≤ 2 ^ 31 → entered (2 ^ 32) window (fragments_from 0 pictures) ≡ entries_from first pictures
    entered_in_order pictures are few = grind (arith, all_enter, none_before)

-- ---- how many parts with slices a picture has

abbrev pub slices_in : ℕ → List Numbered → ℕ
slices_in n es = length (filter_map part_slices (parts_of n es))

slices_more : (n : ℕ) (es : List Numbered) (e : Numbered) → slices_in n (es ++ e ∷ []) ≡ slices_in n es + slices_in n (e ∷ [])
slices_more n es e = grind (arith, common_steps, filter_map-append, length-append, parts_of-append)

module _ (s : Sending) (IsPart : ℕ → Part → Type 0) (window : ℕ) (some : 1 ≤ window) (first : ℕ) (bits : first % 2 ^ 32 ≡ s.picture % 2 ^ 32) (j : ℕ) where
  abbrev own : Fragment → Bool
  own f = is_slices_of (number_bits s j) f

  one_entry : (es : List Numbered) (f : Fragment) (sent : IsSentFragment s IsPart f) → picture_number (2 ^ 32) es f.number ≡ first + sent.picture
      → slices_in (first + j) (record { number = picture_number (2 ^ 32) es f.number; part = f.part } ∷ []) ≤ cond (own f) 1 0
  one_entry es f sent is = grind (arith, parts_of-other, own_part, unopened, eq-eqb)

  one_counted : (es : List Numbered) (f : Fragment) → IsSentFragment s IsPart f → All (IsEntry s IsPart first) (enters (2 ^ 32) window es f) → slices_in (first + j) (enters (2 ^ 32) window es f) ≤ slices_in (first + j) es + cond (own f) 1 0
  one_counted es f sent all = elim (cases_Bool (is_late window es (picture_number (2 ^ 32) es f.number))) [
    | inl late ↦ (let same = ap (slices_in (first + j)) (late_changes_nothing (2 ^ 32) window es f late) in omega (arith, same))
    | inr early ↦ (
        let e : Numbered = record { number = picture_number (2 ^ 32) es f.number; part = f.part } in
        let now = early_enters (2 ^ 32) window es f early in
        let entries : All (IsEntry s IsPart first) (es ++ e ∷ []) = subst (λ (l : List Numbered). All (IsEntry s IsPart first) l) now all in
        let is = number_by s IsPart window some f sent first bits es (All-front (IsEntry s IsPart first) es (e ∷ []) entries) (among_all (IsEntry s IsPart first) e (es ++ e ∷ []) entries (es, [], refl)) in
        let same = ap (slices_in (first + j)) now ∙ slices_more (first + j) es e in
        omega (arith, same, one_entry es f sent is))
  ]

  all_counted : (es : List Numbered) (fs : List Fragment) → All (IsSentFragment s IsPart) fs → All (IsEntry s IsPart first) (fold (enters (2 ^ 32) window) es fs)
      → slices_in (first + j) (fold (enters (2 ^ 32) window) es fs) ≤ slices_in (first + j) es + count_by own fs
  all_counted es [] sent all = omega arith
  all_counted es (f ∷ fs) sent all =
      let next : List Numbered = enters (2 ^ 32) window es f in
      let more = all_added (2 ^ 32) window next fs in
      let here = one_counted es f (All-head (IsSentFragment s IsPart) f fs sent) (All-front (IsEntry s IsPart first) next more.0 (subst (λ (l : List Numbered). All (IsEntry s IsPart first) l) more.1 all)) in
      let later = all_counted next fs (All-tail (IsSentFragment s IsPart) f fs sent) all in
      let total = sum_by-cons (λ (g : Fragment). cond (own g) 1 0) f fs in
      omega (arith, here, later, total)

  pub entered_counted : (fs : List Fragment) → All (IsSentFragment s IsPart) fs → All (IsEntry s IsPart first) (entered (2 ^ 32) window fs) → slices_in (first + j) (entered (2 ^ 32) window fs) ≤ count_by own fs
  entered_counted fs sent all = grind (arith, all_counted [] fs sent all, unopened)

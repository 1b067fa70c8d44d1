-- The numbers that a receiver gives the pictures of a sender: each is as far from the first as it was sent.
use Rattle.std.proofs.Common.{◌≡◌, ◌<◌, ◌≤◌, ℕ, ◌+◌, ◌-◌, ◌%◌, ◌^◌, max, Bool, true, false, cond, List, [], ◌∷◌, ◌++◌, map, refl, sym, ap, ◌∙◌, subst, arith, All, inl, inr, fold, filter, nat_le, ◌==◌, append_assoc, append-nil}
use Rattle.std.proofs.lemmas.Bool.{cases_Bool, cases_lt, both_ways, or_from, lt-leb, eq-eqb, ne_eqb}
use Rattle.std.proofs.lemmas.List.Elements.{All-head, All-tail, All-cons, All-nil, All-push}
use Rattle.std.proofs.lemmas.List.Sums.{fold-append}
use Rattle.link_model.specs.Numbers.{Numbered, greatest, base_above, picture_number, is_closed, is_late, enters, entered, parts_of, has_parts, is_opened}
use Rattle.link_model.specs.Sending.{number_bits}
use Rattle.link_model.specs.Session.{Part, Fragment}
use Rattle.link_model.proofs.Numbering.{late_changes_nothing, early_enters, parts_of-append, entered_follows}
use Rattle.link_laws.proofs.Among.{All-front, among_all}
use Rattle.link_laws.proofs.SentNumbers.{numbers_apart, number_found}
use Rattle.vc_types.specs.SenderSettings.{Sending}

-- the first session's base
pub base_is : base_above 0 ≡ 2 ^ 32
unfolding base_above
base_is = refl

-- entries are only added
one_added : (base window : ℕ) (es : List Numbered) (f : Fragment) → (rest : List Numbered) × (enters base window es f ≡ es ++ rest)
one_added base window es f = elim (cases_Bool (is_late window es (picture_number base es f.number))) [
  | inl late ↦ ([], late_changes_nothing base window es f late ∙ sym (append-nil es))
  | inr early ↦ (record { number = picture_number base es f.number; part = f.part } ∷ [], early_enters base window es f early)
]

pub all_added : (base window : ℕ) (es : List Numbered) (more : List Fragment) → (rest : List Numbered) × (fold (enters base window) es more ≡ es ++ rest)
all_added base window es [] = ([], sym (append-nil es))
all_added base window es (f ∷ more) =
    let first = one_added base window es f in
    let later = all_added base window (enters base window es f) more in
    (first.0 ++ later.0, later.1 ∙ ap (λ (l : List Numbered). l ++ later.0) first.1 ∙ append_assoc es first.0 later.0)

pub entered_begins : (base window : ℕ) (fragments more : List Fragment) → (rest : List Numbered) × (entered base window (fragments ++ more) ≡ entered base window fragments ++ rest)
entered_begins base window fragments more =
    let behind = all_added base window (entered base window fragments) more in
    (behind.0, fold-append (enters base window) [] fragments more ∙ behind.1)

pub first_number : (base bits : ℕ) → picture_number base [] bits ≡ base + bits
unfolding picture_number
first_number base bits = refl

pub none_greatest : greatest [] ≡ 0
unfolding greatest
none_greatest = refl

one_greatest : (e : Numbered) (es : List Numbered) → greatest (e ∷ es) ≡ max e.number (greatest es)
unfolding greatest
one_greatest e es = refl

pub unopened : (number : ℕ) → parts_of number [] ≡ []
unfolding parts_of
unopened number = refl

pub own_part : (number : ℕ) (e : Numbered) (es : List Numbered) → e.number ≡ number → parts_of number (e ∷ es) ≡ e.part ∷ parts_of number es
unfolding parts_of
own_part number e es same = ap (λ (b : Bool). map (λ (e : Numbered). e.part) (cond b (e ∷ filter (λ (e : Numbered). e.number == number) es) (filter (λ (e : Numbered). e.number == number) es))) (eq-eqb e.number number same)

pub other_part : (number : ℕ) (e : Numbered) (es : List Numbered) → (e.number ≡ number → ⊥) → parts_of number (e ∷ es) ≡ parts_of number es
unfolding parts_of
other_part number e es apart = ap (λ (b : Bool). map (λ (e : Numbered). e.part) (cond b (e ∷ filter (λ (e : Numbered). e.number == number) es) (filter (λ (e : Numbered). e.number == number) es))) (ne_eqb e.number number apart)

pub not_late : (window : ℕ) (es : List Numbered) (n : ℕ) → is_closed window es n ≡ false → n < 2 ^ 64 - 16 → is_late window es n ≡ false
unfolding is_late
not_late window es n unclosed small = or_from (is_closed window es n) (nat_le (2 ^ 64 - 16) n) unclosed (lt-leb (2 ^ 64 - 16) n small)

module _ (s : Sending) (IsPart : ℕ → Part → Type 0) where
  -- a fragment is of one of fewer than 2 ^ 31 pictures
  pub record IsSentFragment (f : Fragment) : Type 0 where
    pub picture : ℕ
    pub few : picture < 2 ^ 31
    pub number : f.number ≡ number_bits s picture
    pub part : IsPart picture f.part

  -- and so is an entry, by a first number
  pub record IsEntry (first : ℕ) (e : Numbered) : Type 0 where
    pub picture : ℕ
    pub few : picture < 2 ^ 31
    pub number : e.number ≡ first + picture
    pub part : IsPart picture e.part

  pub record AreEntries (es : List Numbered) : Type 0 where
    pub first : ℕ
    pub bits : first % 2 ^ 32 ≡ s.picture % 2 ^ 32
    pub low : first ≤ 2 ^ 33
    pub all : All (IsEntry first) es

  none_entered : AreEntries []
  none_entered = record { first = s.picture % 2 ^ 32; bits = omega arith; low = omega arith; all = All-nil (IsEntry (s.picture % 2 ^ 32)) }

  -- the greatest number is a picture's
  greatest_is : (first : ℕ) (e : Numbered) (es : List Numbered) → All (IsEntry first) (e ∷ es) → (i : ℕ) × (i < 2 ^ 31) × (greatest (e ∷ es) ≡ first + i)
  greatest_is first e [] all = (let own = All-head (IsEntry first) e [] all in (own.picture, own.few, one_greatest e [] ∙ omega (arith, none_greatest, own.number)))
  greatest_is first e (g ∷ es) all =
      let own = All-head (IsEntry first) e (g ∷ es) all in
      let rest = greatest_is first g es (All-tail (IsEntry first) e (g ∷ es) all) in
      elim (cases_lt own.picture rest.0) [
        | inl below ↦ (rest.0, rest.1, one_greatest e (g ∷ es) ∙ omega (arith, own.number, rest.2, below))
        | inr above ↦ (own.picture, own.few, one_greatest e (g ∷ es) ∙ omega (arith, own.number, rest.2, above))
      ]

  -- the number of a picture after others
  pub number_behind : (base first j : ℕ) (e : Numbered) (es : List Numbered) → first % 2 ^ 32 ≡ s.picture % 2 ^ 32 → All (IsEntry first) (e ∷ es) → j < 2 ^ 31 → picture_number base (e ∷ es) (number_bits s j) ≡ first + j
  unfolding picture_number
  number_behind base first j e es bits all few = grind (arith, greatest_is, number_found)

  with_one : (window : ℕ) (es : List Numbered) (f : Fragment) → AreEntries es → IsSentFragment f → AreEntries (es ++ record { number = picture_number (2 ^ 32) es f.number; part = f.part } ∷ [])
  with_one window [] f are sent =
      let first : ℕ = 2 ^ 32 + number_bits s sent.picture - sent.picture in
      let is : picture_number (2 ^ 32) [] f.number ≡ first + sent.picture = first_number (2 ^ 32) f.number ∙ omega (arith, sent.number, sent.few) in
      record {
        first = first;
        bits = omega (arith, sent.few);
        low = omega (arith, sent.few);
        all = All-cons (IsEntry first) (record { number = picture_number (2 ^ 32) [] f.number; part = f.part }) [] (record { picture = sent.picture; few = sent.few; number = is; part = sent.part }) (All-nil (IsEntry first));
      }
  with_one window (e ∷ es) f are sent =
      let is : picture_number (2 ^ 32) (e ∷ es) f.number ≡ are.first + sent.picture = ap (picture_number (2 ^ 32) (e ∷ es)) sent.number ∙ number_behind (2 ^ 32) are.first sent.picture e es are.bits are.all sent.few in
      record {
        first = are.first;
        bits = are.bits;
        low = are.low;
        all = All-push (IsEntry are.first) (e ∷ es) (record { number = picture_number (2 ^ 32) (e ∷ es) f.number; part = f.part }) are.all (record { picture = sent.picture; few = sent.few; number = is; part = sent.part });
      }

  one_enters : (window : ℕ) (es : List Numbered) (f : Fragment) → AreEntries es → IsSentFragment f → AreEntries (enters (2 ^ 32) window es f)
  one_enters window es f are sent = elim (cases_Bool (is_late window es (picture_number (2 ^ 32) es f.number))) [
    | inl late ↦ subst AreEntries (sym (late_changes_nothing (2 ^ 32) window es f late)) are
    | inr early ↦ subst AreEntries (sym (early_enters (2 ^ 32) window es f early)) (with_one window es f are sent)
  ]

  all_enter : (window : ℕ) (es : List Numbered) (fragments : List Fragment) → AreEntries es → All IsSentFragment fragments → AreEntries (fold (enters (2 ^ 32) window) es fragments)
  all_enter window es [] are sent = are
  all_enter window es (f ∷ fragments) are sent = all_enter window (enters (2 ^ 32) window es f) fragments (one_enters window es f are (All-head IsSentFragment f fragments sent)) (All-tail IsSentFragment f fragments sent)

  pub entered_are : (window : ℕ) (fragments : List Fragment) → All IsSentFragment fragments → AreEntries (entered (2 ^ 32) window fragments)
  entered_are window fragments sent = all_enter window [] fragments none_entered sent

  -- ---- the parts of one number are those of one picture

  module _ (first : ℕ) (bits : first % 2 ^ 32 ≡ s.picture % 2 ^ 32) where
    -- a number that is opened is that of a picture
    opened_is : (es : List Numbered) (number : ℕ) → All (IsEntry first) es → has_parts (parts_of number es) ≡ true → (j : ℕ) × (j < 2 ^ 31) × (number ≡ first + j)
    opened_is [] number all opened = absurd (both_ways (has_parts (parts_of number [])) (ap has_parts (unopened number)) opened)
    opened_is (e ∷ es) number all opened =
        grind (arith, All-head, other_part, opened_is es number (All-tail (IsEntry first) e es all))

    pub opened_number : (es : List Numbered) (number j : ℕ) → All (IsEntry first) es → is_opened es number ≡ true → j < 2 ^ 31 → number % 2 ^ 32 ≡ number_bits s j → number ≡ first + j
    opened_number es number j all opened few same = grind (arith, numbers_apart, opened_is)

    pub parts_are : (es : List Numbered) (j : ℕ) → All (IsEntry first) es → All (IsPart j) (parts_of (first + j) es)
    parts_are [] j all = subst (λ (l : List Part). All (IsPart j) l) (sym (unopened (first + j))) (All-nil (IsPart j))
    parts_are (e ∷ es) j all =
        grind (arith, All-head, own_part, other_part, parts_are es j (All-tail (IsEntry first) e es all))

  -- ---- a fragment that comes before its picture closes

  module _ (window : ℕ) (some : 1 ≤ window) (f : Fragment) (sent : IsSentFragment f) (first : ℕ) (bits : first % 2 ^ 32 ≡ s.picture % 2 ^ 32) where
    abbrev pub own_number : ℕ
    own_number = first + sent.picture

    abbrev pub entry_in : List Numbered → Numbered
    entry_in es = record { number = picture_number (2 ^ 32) es f.number; part = f.part }

    number_in : (e : Numbered) (es : List Numbered) → All (IsEntry first) (e ∷ es) → picture_number (2 ^ 32) (e ∷ es) f.number ≡ own_number
    number_in e es all = ap (picture_number (2 ^ 32) (e ∷ es)) sent.number ∙ number_behind (2 ^ 32) first sent.picture e es bits all sent.few

    -- it isn't late
    early_in : (es : List Numbered) → first ≤ 2 ^ 33 → All (IsEntry first) es → is_closed window es own_number ≡ false → is_late window es (picture_number (2 ^ 32) es f.number) ≡ false
    unfolding is_closed
    early_in [] low all unclosed = grind (arith, first_number, not_late, lt-leb, none_greatest)
    early_in (e ∷ es) low all unclosed = grind (arith, number_in, not_late)

    -- its number is its picture's
    pub number_by : (es : List Numbered) → All (IsEntry first) es → IsEntry first (entry_in es) → picture_number (2 ^ 32) es f.number ≡ own_number
    number_by [] all own = grind (arith, first_number)
    number_by (e ∷ es) all own = number_in e es all

    module _ (low : first ≤ 2 ^ 33) (old more : List Fragment) where
      abbrev before : List Numbered
      before = entered (2 ^ 32) window old

      abbrev after : List Numbered
      after = entered (2 ^ 32) window (old ++ f ∷ [])

      abbrev last : List Numbered
      last = entered (2 ^ 32) window ((old ++ f ∷ []) ++ more)

      module _ (entries : All (IsEntry first) last) (unclosed : is_closed window after own_number ≡ false) where
        one_more : after ≡ enters (2 ^ 32) window before f
        one_more = fold-append (enters (2 ^ 32) window) [] old (f ∷ [])

        all_after : All (IsEntry first) after
        all_after = (let rest = entered_begins (2 ^ 32) window (old ++ f ∷ []) more in All-front (IsEntry first) after rest.0 (subst (λ (l : List Numbered). All (IsEntry first) l) rest.1 entries))

        all_before : All (IsEntry first) before
        all_before = (let rest = entered_begins (2 ^ 32) window old (f ∷ []) in All-front (IsEntry first) before rest.0 (subst (λ (l : List Numbered). All (IsEntry first) l) rest.1 all_after))

        early : is_late window before (picture_number (2 ^ 32) before f.number) ≡ false
        early = grind (arith, all_before, early_in, late_changes_nothing, one_more)

        entered_now : after ≡ before ++ entry_in before ∷ []
        entered_now = one_more ∙ early_enters (2 ^ 32) window before f early

        own_entry : IsEntry first (entry_in before)
        own_entry = among_all (IsEntry first) (entry_in before) after all_after (before, [], entered_now)

        parts_now : parts_of own_number after ≡ parts_of own_number before ++ f.part ∷ []
        parts_now =
            grind (arith, entered_now, own_part, parts_of-append, unopened, number_by, all_before, own_entry)

        -- so its part is one of its picture's, after those that came before it
        pub part_entered : (rest : List Part) × (parts_of own_number last ≡ parts_of own_number before ++ f.part ∷ rest)
        part_entered =
            let later = (entered_follows (2 ^ 32) window (old ++ f ∷ []) more).adds own_number in
            (later.0, later.1 ∙ ap (λ (l : List Part). l ++ later.0) parts_now ∙ append_assoc (parts_of own_number before) (f.part ∷ []) later.0)

-- As fragments come the greatest number never falls, and a picture that is closed gets no more parts.
use Rattle.std.proofs.Common.{◌≡◌, ℕ, ◌+◌, ◌-◌, ◌<◌, ◌≤◌, ◌^◌, max, Bool, true, false, List, [], ◌∷◌, ◌++◌, map, refl, ap, sym, subst, ◌∙◌, inl, inr, arith, cond, ◌⊎◌, fold, filter, ◌==◌, nat_le}
use Rattle.std.proofs.lemmas.Bool.{cases_Bool, cond-true, cond-false, or_parts, leb-true, leb-false, ne_eqb}
use Rattle.std.proofs.lemmas.List.{append_assoc, append-nil, map-append}
use Rattle.std.proofs.lemmas.List.Elements.{filter-append}
use Rattle.std.proofs.lemmas.List.Sums.{fold-append}
use Rattle.link_model.specs.Numbers.{Numbered, greatest, least, least_up_to, picture_number, is_closed, is_late, enters, entered, parts_of}
use Rattle.link_model.specs.Session.{Part, Fragment}

pub greatest_one : (e : Numbered) → greatest (e ∷ []) ≡ e.number
unfolding greatest
greatest_one e = omega arith

pub greatest-append : (es more : List Numbered) → greatest (es ++ more) ≡ max (greatest es) (greatest more)
unfolding greatest
greatest-append [] more = omega arith
greatest-append (e ∷ es) more = omega (arith, greatest-append es more)

pub parts_of-append : (n : ℕ) (es more : List Numbered) → parts_of n (es ++ more) ≡ parts_of n es ++ parts_of n more
unfolding parts_of
parts_of-append n es more = ap (map (λ (e : Numbered). e.part)) (filter-append (λ (e : Numbered). e.number == n) es more) ∙ map-append (λ (e : Numbered). e.part) (filter (λ (e : Numbered). e.number == n) es) (filter (λ (e : Numbered). e.number == n) more)

-- one part of another picture
pub parts_of-other : (n : ℕ) (e : Numbered) → (e.number ≡ n → ⊥) → parts_of n (e ∷ []) ≡ []
unfolding parts_of
parts_of-other n e apart = ap (λ (b : Bool). map (λ (e : Numbered). e.part) (cond b (e ∷ []) [])) (ne_eqb e.number n apart)

-- ---- what later entries leave

-- entries after others, in a window
pub record Follows (window : ℕ) (old new : List Numbered) : Type 0 where
  pub grows : greatest old ≤ greatest new
  pub adds : (n : ℕ) → (more : List Part) × (parts_of n new ≡ parts_of n old ++ more)
  pub closed : (n : ℕ) → n + window ≤ greatest old → parts_of n new ≡ parts_of n old

module _ (window : ℕ) where
  pub follows_itself : (es : List Numbered) → Follows window es es
  follows_itself es = record { grows = omega arith; adds = λ n. ([], sym (append-nil (parts_of n es))); closed = λ n h. refl }

  pub follows_on : (a b c : List Numbered) → Follows window a b → Follows window b c → Follows window a c
  follows_on a b c first second = record {
    grows = omega (arith, first.grows, second.grows);
    adds = λ n. ((first.adds n).0 ++ (second.adds n).0, (second.adds n).1 ∙ ap (λ (l : List Part). l ++ (second.adds n).0) (first.adds n).1 ∙ append_assoc (parts_of n a) (first.adds n).0 (second.adds n).0);
    closed = λ n h. second.closed n (omega (arith, h, first.grows)) ∙ first.closed n h;
  }

  one_more : (es : List Numbered) (e : Numbered) → greatest es < e.number + window → Follows window es (es ++ e ∷ [])
  one_more es e early = record {
    grows = omega (arith, greatest-append es (e ∷ []));
    adds = λ n. (parts_of n (e ∷ []), parts_of-append n es (e ∷ []));
    closed = λ n h. parts_of-append n es (e ∷ []) ∙ ap (λ (l : List Part). parts_of n es ++ l) (parts_of-other n e (λ same. omega (arith, same, h, early))) ∙ append-nil (parts_of n es);
  }

  -- a fragment that is late changes nothing
  pub early_is : (es : List Numbered) (n : ℕ) → is_late window es n ≡ false → greatest es < n + window
  unfolding is_late is_closed
  early_is es n early = leb-false (n + window) (greatest es) (or_parts (nat_le (n + window) (greatest es)) (nat_le (2 ^ 64 - 16) n) early).0

-- a fragment that is late, and one that enters
module _ (base window : ℕ) where
  pub late_changes_nothing : (es : List Numbered) (f : Fragment) → is_late window es (picture_number base es f.number) ≡ true → enters base window es f ≡ es
  unfolding enters
  late_changes_nothing es f late = cond-true (is_late window es (picture_number base es f.number)) es (es ++ record { number = picture_number base es f.number; part = f.part } ∷ []) late

  pub early_enters : (es : List Numbered) (f : Fragment) → is_late window es (picture_number base es f.number) ≡ false → enters base window es f ≡ es ++ record { number = picture_number base es f.number; part = f.part } ∷ []
  unfolding enters
  early_enters es f early = cond-false (is_late window es (picture_number base es f.number)) es (es ++ record { number = picture_number base es f.number; part = f.part } ∷ []) early

  pub enters_follows : (es : List Numbered) (f : Fragment) → Follows window es (enters base window es f)
  enters_follows es f = elim (cases_Bool (is_late window es (picture_number base es f.number))) [
    | inl late ↦ subst (Follows window es) (sym (late_changes_nothing es f late)) (follows_itself window es)
    | inr early ↦ subst (Follows window es) (sym (early_enters es f early)) (one_more window es (record { number = picture_number base es f.number; part = f.part }) (early_is window es (picture_number base es f.number) early))
  ]

  all_follow : (es : List Numbered) (fragments : List Fragment) → Follows window es (fold (enters base window) es fragments)
  all_follow es [] = follows_itself window es
  all_follow es (f ∷ fragments) = follows_on window es (enters base window es f) (fold (enters base window) (enters base window es f) fragments) (enters_follows es f) (all_follow (enters base window es f) fragments)

  pub entered_follows : (fragments more : List Fragment) → Follows window (entered base window fragments) (entered base window (fragments ++ more))
  entered_follows fragments more = subst (Follows window (entered base window fragments)) (sym (fold-append (enters base window) [] fragments more)) (all_follow (entered base window fragments) more)

-- ---- numbers that weren't opened

parts_of-above : (n : ℕ) (es : List Numbered) → greatest es < n → parts_of n es ≡ []
unfolding parts_of greatest
parts_of-above n [] above = refl
parts_of-above n (e ∷ es) above = grind (arith, parts_of-above n es (omega (arith, above)))

parts_of-below : (n bound : ℕ) (es : List Numbered) → n < least_up_to bound es → parts_of n es ≡ []
unfolding parts_of
parts_of-below n bound [] below = refl
parts_of-below n bound (e ∷ es) below = grind (arith, parts_of-below n bound es (omega (arith, below)))

pub parts_of-outside : (n : ℕ) (es : List Numbered) → (n < least es) ⊎ (greatest es < n) → parts_of n es ≡ []
unfolding least
parts_of-outside n es (inl below) = parts_of-below n (greatest es) es below
parts_of-outside n es (inr above) = parts_of-above n es above

-- ---- the same, of fragments

pub greatest_grows : (base window : ℕ) (fragments more : List Fragment) → greatest (entered base window fragments) ≤ greatest (entered base window (fragments ++ more))
greatest_grows base window fragments more = (entered_follows base window fragments more).grows

pub closed_stays : (base window n : ℕ) (fragments more : List Fragment) → is_closed window (entered base window fragments) n ≡ true → parts_of n (entered base window (fragments ++ more)) ≡ parts_of n (entered base window fragments)
unfolding is_closed
closed_stays base window n fragments more closed = (entered_follows base window fragments more).closed n (leb-true (n + window) (greatest (entered base window fragments)) closed)

pub ruleset laws = (greatest_grows, late_changes_nothing, closed_stays)

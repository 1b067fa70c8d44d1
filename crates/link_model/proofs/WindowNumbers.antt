-- A window's greatest number, the picture that a fragment opened, and the window of a list's last session.
use Rattle.std.proofs.Common.{◌≡◌, ℕ, ◌+◌, ◌%◌, ◌^◌, ◌<◌, ◌≤◌, max, Bool, true, false, List, [], ◌∷◌, ◌++◌, map, Some, None, refl, ap, sym, subst, ◌∙◌, inl, inr, arith, cond, nat_le, not, ◌&&◌, ◌||◌, fold}
use Rattle.std.specs.List.{last_or}
use Rattle.std.proofs.lemmas.Bool.{cases_lt, and_from, and_left, cond-true, eq-eqb, false≢true, lt-leb, not_from_false, or_from}
use Rattle.std.proofs.lemmas.List.Sums.{fold-append}
use Rattle.link_model.specs.Books.{book_of}
use Rattle.link_model.specs.Numbers.{Numbered, greatest, nearest, base_above, enters, entered, is_closed, is_late, is_opened, has_parts, parts_of, picture_number}
use Rattle.link_model.specs.Output.{greatest_of}
use Rattle.link_model.specs.Session.{Part, Fragment, HeardSession, with_datagram, fragment_in}
use Rattle.link_model.specs.Windows.{Window, book_at, released_up_to, window_enters, WindowPast, past_enters, greatest_behind, is_nothing, window_of, StandsForPast, session_past}
use Rattle.link_model.proofs.Apart.{base_is_above, base_is_multiple}
use Rattle.link_model.proofs.Hearing.{with_fragment, without_fragment}
use Rattle.link_model.proofs.Numbering.{early_enters, early_is, late_changes_nothing, greatest_one, greatest-append, parts_of-append}
use Rattle.link_model.proofs.Windowing.{gone_in, needed_by}
use Rattle.link_model.proofs.WindowStands.{enters_stands, book_is}
use Rattle.link_model.proofs.Wrapping.{nearest-bits}

-- ---- the greatest number

module _ (before window : ℕ) where
  abbrev IsHigh : List Numbered → Type 0
  IsHigh es = is_nothing es ≡ false → base_above before ≤ greatest es

  enters_high : (es : List Numbered) (f : Fragment) → IsHigh es → IsHigh (enters (base_above before) window es f)
  unfolding picture_number
  enters_high es f high = grind (arith, early_enters, greatest-append, late_changes_nothing, greatest_one)

  all_high : (es : List Numbered) (fragments : List Fragment) → IsHigh es → IsHigh (fold (enters (base_above before) window) es fragments)
  all_high es [] high = high
  all_high es (f ∷ fragments) high = all_high (enters (base_above before) window es f) fragments (enters_high es f high)

  pub entered_high : (fragments : List Fragment) → IsHigh (entered (base_above before) window fragments)
  entered_high fragments = all_high [] fragments (λ none. absurd (false≢true (sym none)))

  pub greatest_of_all : (fragments : List Fragment) → greatest_behind before (entered (base_above before) window fragments) ≡ max (greatest (entered (base_above before) window fragments)) before
  unfolding greatest
  greatest_of_all fragments = grind (arith, base_is_above, entered_high)

-- ---- the number of a picture that a fragment opened, by the greatest number after it

nearest_itself : (n bits : ℕ) → n % 2 ^ 32 ≡ bits → nearest n bits ≡ n
unfolding nearest
nearest_itself n bits is = grind arith

base_is_large : (before : ℕ) → 2 ^ 32 ≤ base_above before
unfolding base_above
base_is_large before = omega arith

module _ (before window : ℕ) (f : Fragment) (small : f.number < 2 ^ 32) where
  nearest_top : (g : ℕ) → base_above before ≤ g → nearest (max g (nearest g f.number)) f.number ≡ nearest g f.number
  nearest_top g high = elim (cases_lt g (nearest g f.number)) [
    | inl rises ↦ (let top : max g (nearest g f.number) ≡ nearest g f.number = omega (arith, rises) in
        ap (λ k. nearest k f.number) top ∙ nearest_itself (nearest g f.number) f.number (nearest-bits g f.number (omega (arith, base_is_large before, high)) small))
    | inr stays ↦ (let top : max g (nearest g f.number) ≡ g = omega (arith, stays) in ap (λ k. nearest k f.number) top)
  ]

  nearest_of : (es : List Numbered) → IsHigh before window es
      → nearest (greatest (es ++ record { number = picture_number (base_above before) es f.number; part = f.part } ∷ [])) f.number ≡ picture_number (base_above before) es f.number
  unfolding picture_number
  nearest_of [] high =
      ap (λ k. nearest k f.number) (greatest_one (record { number = base_above before + f.number; part = f.part }))
      ∙ nearest_itself (base_above before + f.number) f.number (omega (arith, base_is_multiple before, small))
  nearest_of (e ∷ es) high =
      let n = nearest (greatest (e ∷ es)) f.number in
      let top : greatest (e ∷ (es ++ record { number = n; part = f.part } ∷ [])) ≡ max (greatest (e ∷ es)) n = omega (arith, greatest-append (e ∷ es) (record { number = n; part = f.part } ∷ []), greatest_one (record { number = n; part = f.part })) in
      ap (λ k. nearest k f.number) top ∙ nearest_top (greatest (e ∷ es)) (high refl)

-- ---- what a fragment that isn't late leaves

-- the greatest number is one that entered
behind_more : (before : ℕ) (es : List Numbered) (e : Numbered) → greatest_behind before (es ++ e ∷ []) ≡ greatest (es ++ e ∷ [])
behind_more before [] e = refl
behind_more before (d ∷ es) e = refl

opened_more : (es : List Numbered) (n : ℕ) (part : Part) → is_opened (es ++ record { number = n; part = part } ∷ []) n ≡ true
unfolding parts_of
opened_more es n part =
    ap has_parts (parts_of-append n es (record { number = n; part = part } ∷ []) ∙ ap (λ (l : List Part). parts_of n es ++ l) here)
    ∙ ends (parts_of n es)
  where
    here : parts_of n (record { number = n; part = part } ∷ []) ≡ part ∷ []
    here = ap (λ (b : Bool). map (λ (e : Numbered). e.part) (cond b (record { number = n; part = part } ∷ []) [])) (eq-eqb n n refl)

    ends : (parts : List Part) → has_parts (parts ++ part ∷ []) ≡ true
    ends [] = refl
    ends (q ∷ parts) = refl

module _ (w : Window) (p : WindowPast) (stands : StandsForPast w p) (runs : p.is_ended ≡ false) (f : Fragment)
    (early : is_late p.size p.entries (picture_number (base_above p.before) p.entries f.number) ≡ false) where
  abbrev n : ℕ
  n = picture_number (base_above p.before) p.entries f.number

  abbrev more : List Numbered
  more = p.entries ++ record { number = n; part = f.part } ∷ []

  entries_are : (past_enters p f).entries ≡ more
  entries_are = early_enters (base_above p.before) p.size p.entries f early

  -- the fragment's picture is the nearest one to the greatest number
  pub entered_number : (fragments : List Fragment) → p.entries ≡ entered (base_above p.before) p.size fragments → f.number < 2 ^ 32 → nearest (window_enters w f).top f.number ≡ n
  unfolding window_of
  entered_number fragments are small =
      ap (λ (v : Window). nearest v.top f.number) (enters_stands w p stands runs f).value
      ∙ ap (λ (es : List Numbered). nearest (greatest_behind p.before es) f.number) entries_are
      ∙ ap (λ k. nearest k f.number) (behind_more p.before p.entries (record { number = n; part = f.part }))
      ∙ nearest_of p.before p.size f small p.entries (subst (IsHigh p.before p.size) (sym are) (entered_high p.before p.size fragments))

  one_number_more : greatest more ≡ max (greatest p.entries) n
  unfolding greatest
  one_number_more = omega (arith, greatest-append p.entries (record { number = n; part = f.part } ∷ []))

  -- and its book is there
  pub entered_book : 0 < p.size → book_at (window_enters w f).books n ≡ Some (book_of p.sequence (parts_of n (past_enters p f).entries))
  unfolding is_closed
  entered_book some =
      book_is (window_enters w f) (past_enters p f) (enters_stands w p stands runs f) n
      ∙ cond-true (needed_by (past_enters p f).entries (gone_in (past_enters p f)) n) (Some (book_of p.sequence (parts_of n (past_enters p f).entries))) None
      (ap (λ (es : List Numbered). is_opened es n && not ((p.is_ended || nat_le (n + p.size) (greatest es)) && released_up_to (last_or None p.released) n)) entries_are
      ∙ and_from (is_opened more n) (not ((p.is_ended || nat_le (n + p.size) (greatest more)) && released_up_to (last_or None p.released) n)) (opened_more p.entries n f.part)
      (not_from_false ((p.is_ended || nat_le (n + p.size) (greatest more)) && released_up_to (last_or None p.released) n)
      (and_left (p.is_ended || nat_le (n + p.size) (greatest more)) (released_up_to (last_or None p.released) n)
      (or_from p.is_ended (nat_le (n + p.size) (greatest more)) runs
      (lt-leb (n + p.size) (greatest more) (omega (arith, one_number_more, early_is p.size p.entries n early, some)))))))

-- ---- the last session

module _ (size : ℕ) (hs : List HeardSession) (h : HeardSession) (released : List ℕ) where
  pub session_greatest : (window_of (session_past size hs h released)).top ≡ greatest_of size (h ∷ hs)
  unfolding window_of greatest_of
  session_greatest = greatest_of_all (greatest_of size hs) size h.fragments

  pub top_of_session : (w : Window) → StandsForPast w (session_past size hs h released) → w.top ≡ greatest_of size (h ∷ hs)
  top_of_session w stands = ap (λ (v : Window). v.top) stands.value ∙ session_greatest

  module _ (d : List ℕ) where
    -- a datagram with a fragment
    pub session_enters : (f : Fragment) → fragment_in h.session d ≡ Some f → past_enters (session_past size hs h released) f ≡ session_past size hs (with_datagram h d) released
    session_enters f is = grind (arith, fold-append, with_fragment)

    -- and one without
    pub session_stays : fragment_in h.session d ≡ None → session_past size hs (with_datagram h d) released ≡ session_past size hs h released
    session_stays is = grind (arith, without_fragment)

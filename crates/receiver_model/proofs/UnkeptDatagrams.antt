-- A datagram that isn't kept leaves the session that stands, and what its pictures keep.
use Rattle.std.proofs.Common.{◌≡◌, ℕ, Bool, true, false, refl, ap, sym, ◌∙◌, arith}
use Rattle.std.proofs.Common.{List, [], ◌∷◌, ◌++◌, Option, Some, None, cond, inl, inr, map, ◌+◌, ◌≤◌}
use Rattle.std.specs.Prelude.{◌&&◌, ◌||◌, ◌⊎◌, not, nat_le}
use Rattle.std.specs.List.{last_or}
use Rattle.std.proofs.lemmas.Bool.{cond-false, eq-eqb, false≢true, both_ways, le-leb, leb-true, or_right}
use Rattle.std.proofs.Math.Bool.{or-false}
use Rattle.std.proofs.lemmas.Option.{cond_some, none-some}
use Rattle.link_model.specs.Books.{Book, book_of}
use Rattle.link_model.specs.Judgement.{keeps, part_outcome, fragment_outcome, outcome_behind}
use Rattle.link_model.specs.Numbers.{Numbered, base_above, greatest, has_parts, is_closed, is_late, is_opened}
use Rattle.link_model.specs.Numbers.{parts_of, picture_number}
use Rattle.link_model.specs.Session.{Part, Session, Fragment, HeardSession, sessions_of, begins}
use Rattle.link_model.specs.Session.{ends, fragment_in, opens_behind, opens_next}
use Rattle.link_model.specs.Windows.{Window, WindowPast, StandsForPast, book_at, window_enters}
use Rattle.link_model.specs.Windows.{window_outcome, window_of, is_needed, released_up_to}
use Rattle.link_model.specs.Windows.{closed_in, greatest_behind, stays_in, with_number}
use Rattle.link_model.specs.declared.outcome.Outcome.{Outcome}
use Rattle.link_model.specs.declared.outcome.Outcome.TheVariants as outcomes
use Rattle.link_model.proofs.Bookkeeping.{takes-more, book_outcome_is}
use Rattle.link_model.proofs.Leaving.{no_parts}
use Rattle.link_model.proofs.Numbering.{early_enters, late_changes_nothing, parts_of-append}
use Rattle.link_model.proofs.SessionOutcomes.{opening_is_new, fragment_is_judged, end_is_end}
use Rattle.link_model.proofs.Unchanged.{unkept_changes_nothing}
use Rattle.link_model.proofs.WindowStands.{book_is, enters_stands, window_outcome_is}
use Rattle.receiver_model.specs.Judging.{enters_window, goes_on, keeps_datagram, judged}
use Rattle.receiver_model.specs.Judging.{session_opened, opens_after}
use Rattle.receiver_model.specs.Receptions.{StandingSession, Reception}
use Rattle.receiver_model.specs.Standing.{StandsForHeard, standing_of, standing_with, all_released}
use Rattle.receiver_model.specs.Standing.{last_past, leaves_pictures, LeavesBooks, LeavesSession}
use Rattle.receiver_model.proofs.JudgedOutcomes.{resting_stands, opens_same, judged_is}
use Rattle.receiver_model.proofs.OfferedJobs.{other_parts, closed_later, later}

pub its_part : (n : ℕ) (part : Part)
    → parts_of n (record { number = n; part = part } ∷ []) ≡ part ∷ []
unfolding parts_of
its_part n part = ap (λ (b : Bool). map (λ (e : Numbered). e.part)
    (cond b (record { number = n; part = part } ∷ []) [])) (eq-eqb n n refl)

-- ---- a window

parts_stay : (parts more : List Part) → has_parts parts ≡ true → has_parts (parts ++ more) ≡ true
parts_stay [] more some = absurd (false≢true some)
parts_stay (part ∷ parts) more some = refl

most_behind : (before : ℕ) (es : List Numbered) → greatest es ≤ greatest_behind before es
unfolding greatest
most_behind before [] = omega arith
most_behind before (e ∷ es) = omega arith

module _ (w : Window) (p : WindowPast) (stands : StandsForPast w p) (runs : p.is_ended ≡ false)
    (f : Fragment) (unkept : keeps (window_outcome w f) ≡ false) where
  abbrev m : ℕ
  m = picture_number (base_above p.before) p.entries f.number

  abbrev now : List Numbered
  now = (later w p stands runs f).entries

  -- the book of the fragment's picture stays
  same_there : is_late p.size p.entries m ≡ false
      → book_of p.sequence (parts_of m now) ≡ book_of p.sequence (parts_of m p.entries)
  unfolding fragment_outcome
  same_there early =
      let parts = parts_of m p.entries in
      let outcome : keeps (part_outcome p.sequence parts f.part) ≡ false =
      sym (ap keeps (cond-false (is_late p.size p.entries m) outcomes.Late
      (part_outcome p.sequence parts f.part) early))
      ∙ sym (ap keeps (window_outcome_is w p stands runs f)) ∙ unkept in
      ap (λ (es : List Numbered). book_of p.sequence (parts_of m es))
      (early_enters (base_above p.before) p.size p.entries f early)
      ∙ ap (book_of p.sequence) one_more
      ∙ sym (takes-more p.sequence parts f.part)
      ∙ unkept_changes_nothing (book_of p.sequence parts) f.part
      (ap keeps (book_outcome_is p.sequence parts f.part) ∙ outcome)
    where
      one_more : parts_of m (p.entries ++ record { number = m; part = f.part } ∷ [])
          ≡ parts_of m p.entries ++ f.part ∷ []
      one_more = parts_of-append m p.entries (record { number = m; part = f.part } ∷ [])
          ∙ ap (λ (l : List Part). parts_of m p.entries ++ l) (its_part m f.part)

  same_books : (n : ℕ)
      → book_of p.sequence (parts_of n now) ≡ book_of p.sequence (parts_of n p.entries)
  same_books n = grind (arith, other_parts, late_changes_nothing, same_there)

  abbrev is_low : ℕ → Bool
  is_low n = released_up_to (last_or None p.released) n

  by_tests : (was over low closed closed_then : Bool) → (closed ≡ true → closed_then ≡ true)
      → (then book : Book)
      → cond (was && not ((over || closed_then) && low)) (Some then) None ≡ Some book
      → cond (not ((over || closed) && low)) (Some then) None ≡ Some book
  by_tests false over low closed closed_then grows then book e = absurd (none-some book e)
  by_tests true true true closed closed_then grows then book e = absurd (none-some book e)
  by_tests true true false closed closed_then grows then book e = e
  by_tests true false true closed true grows then book e = absurd (none-some book e)
  by_tests true false false true true grows then book e = e
  by_tests true false false false true grows then book e = e
  by_tests true false low true false grows then book e = absurd (false≢true (grows refl))
  by_tests true false low false false grows then book e = e

  -- each book was there before, or is of a picture that the fragment opens
  no_other_book : (n : ℕ) (book : Book) → book_at (window_enters w f).books n ≡ Some book
      → (book_at w.books n ≡ Some book)
      ⊎ ((book_at w.books n ≡ None) × (book ≡ book_of p.sequence []))
  no_other_book n book is =
      let then = book_of p.sequence (parts_of n now) in
      let before = book_of p.sequence (parts_of n p.entries) in
      let e = by_tests (is_opened now n) p.is_ended (is_low n) (is_closed p.size p.entries n)
      (is_closed p.size now n) (closed_later w p stands runs f n) then book
      (sym (book_is (window_enters w f) (later w p stands runs f)
      (enters_stands w p stands runs f) n) ∙ is) in
      let kept : cond (not ((p.is_ended || is_closed p.size p.entries n) && is_low n))
      (Some before) None ≡ Some book =
      sym (ap (λ (b : Book). cond (not ((p.is_ended || is_closed p.size p.entries n)
      && is_low n)) (Some b) None) (same_books n)) ∙ e in
      by_opened (is_opened p.entries n) refl kept
      (cond_some (not ((p.is_ended || is_closed p.size p.entries n) && is_low n)) before book kept).1
    where
      by_opened : (was : Bool) → is_opened p.entries n ≡ was
          → cond (not ((p.is_ended || is_closed p.size p.entries n) && is_low n))
          (Some (book_of p.sequence (parts_of n p.entries))) None ≡ Some book
          → book_of p.sequence (parts_of n p.entries) ≡ book
          → (book_at w.books n ≡ Some book)
          ⊎ ((book_at w.books n ≡ None) × (book ≡ book_of p.sequence []))
      by_opened true at kept same = inl (book_is w p stands n
          ∙ ap (λ (b : Bool). cond (b && is_needed p n)
          (Some (book_of p.sequence (parts_of n p.entries))) None) at
          ∙ kept)
      by_opened false at kept same = inr (
        book_is w p stands n
            ∙ ap (λ (b : Bool). cond (b && is_needed p n)
            (Some (book_of p.sequence (parts_of n p.entries))) None) at,
        sym same ∙ ap (book_of p.sequence) (no_parts (parts_of n p.entries) at),
      )

  opened_later : (n : ℕ) → is_opened p.entries n ≡ true → is_opened now n ≡ true
  opened_later n opened =
      grind (arith, late_changes_nothing, early_enters, parts_of-append, parts_stay)

  -- a picture that the later fragments close is one that the window says is closed
  closed_there : (n : ℕ) → is_closed p.size now n ≡ true
      → closed_in (window_enters w f) n ≡ true
  unfolding is_closed window_of
  closed_there n closed =
      ap (λ (v : Window). closed_in v n) (enters_stands w p stands runs f).value
      ∙ or_right p.is_ended (nat_le (n + p.size) (greatest_behind p.before now))
      (le-leb (n + p.size) (greatest_behind p.before now)
      (omega (arith, most_behind p.before now, leb-true (n + p.size) (greatest now) closed)))

  low_there : (n : ℕ) → released_up_to (window_enters w f).last_released n ≡ is_low n
  unfolding window_of
  low_there n = ap (λ (v : Window). released_up_to v.last_released n)
      (enters_stands w p stands runs f).value

  book_before : (n : ℕ) → book_at w.books n
      ≡ cond (is_opened p.entries n && not ((p.is_ended || is_closed p.size p.entries n) && is_low n))
      (Some (book_of p.sequence (parts_of n p.entries))) None
  book_before = book_is w p stands

  book_there : (n : ℕ) → book_at (window_enters w f).books n
      ≡ cond (is_opened now n && not ((p.is_ended || is_closed p.size now n) && is_low n))
      (Some (book_of p.sequence (parts_of n now))) None
  book_there = book_is (window_enters w f) (later w p stands runs f) (enters_stands w p stands runs f)

  -- no book goes but that of a picture which is closed and was released
  none_goes : (n : ℕ) (book : Book) → book_at w.books n ≡ Some book
      → stays_in (window_enters w f) (with_number n book) ≡ true
      → book_at (window_enters w f).books n ≡ Some book
  none_goes n book is stays =
      grind (arith, book_before, book_there, opened_later, closed_there, low_there, same_books, runs)

  pub books_left : LeavesBooks p.sequence w (window_enters w f)
  books_left = record { no_other = no_other_book; none_goes = none_goes }

-- ---- the session that stands

module _ (r : Reception) (size : ℕ) (datagrams : List (List ℕ)) (d : List ℕ)
    (stands : StandsForHeard r size datagrams false)
    (leaves : leaves_pictures (judged r d) ≡ true) where
  outcome_is : judged r d ≡ outcome_behind size datagrams d
  outcome_is = judged_is r size datagrams d stands.session

  module _ (h : HeardSession) (hs : List HeardSession) (at : sessions_of datagrams ≡ h ∷ hs) where
    abbrev st : StandingSession
    st = standing_with h (all_released (last_past size false hs h))

    standing_is : r.standing ≡ Some st
    standing_is = stands.session ∙ ap (standing_of size false) at

    not_outcome : (o : Outcome) → leaves_pictures o ≡ false → outcome_behind size datagrams d ≡ o
        → ⊥
    not_outcome o left is = both_ways (leaves_pictures (judged r d))
        (ap leaves_pictures (outcome_is ∙ is) ∙ left) leaves

    opens_none : (o : Option Session) → opens_behind h (begins d) ≡ o → o ≡ None
    opens_none None is = refl
    opens_none (Some s) is = absurd (not_outcome outcomes.HeaderNew refl
        (opening_is_new size datagrams d s
        (ap (λ (l : List HeardSession). opens_next l (begins d)) at ∙ is)))

    opened_none : session_opened r d ≡ None
    opened_none = ap (λ (o : Option StandingSession). opens_after o (begins d)) standing_is
        ∙ opens_same size h hs (begins d)
        ∙ opens_none (opens_behind h (begins d)) refl

    ends_not : ends h.session d ≡ false
    ends_not = by_end (ends h.session d) refl
      where
        by_end : (b : Bool) → ends h.session d ≡ b → b ≡ false
        by_end false is = refl
        by_end true is = absurd (not_outcome outcomes.End refl
            (end_is_end size h hs datagrams at d is))

    its_books : LeavesBooks h.session.sequence st.window (goes_on st d).window
    its_books = by_fragment (fragment_in h.session d) refl
      where
        keeps_not : (o : Outcome) → leaves_pictures o ≡ true → keeps o ≡ false
        keeps_not outcomes.HeaderNew e = refl
        keeps_not outcomes.End e = refl
        keeps_not outcomes.ParamsKept e = absurd (false≢true e)
        keeps_not outcomes.SlicesKept e = absurd (false≢true e)
        keeps_not outcomes.SlicesConflict e = absurd (false≢true e)
        keeps_not outcomes.SlicesPending e = absurd (false≢true e)
        keeps_not other e = refl

        by_fragment : (o : Option Fragment) → fragment_in h.session d ≡ o
            → LeavesBooks h.session.sequence st.window (enters_window st.window o)
        by_fragment None is = record { no_other = λ n book e. inl e; none_goes = λ n book e stays. e }
        by_fragment (Some f) is = books_left st.window (all_released (last_past size false hs h))
            (resting_stands (last_past size false hs h)) refl f
            (ap keeps (window_outcome_is st.window (all_released (last_past size false hs h))
            (resting_stands (last_past size false hs h)) refl f
            ∙ sym (fragment_is_judged size h hs datagrams at d f is)
            ∙ sym outcome_is)
            ∙ keeps_not (judged r d) leaves)

    standing_leaves : LeavesSession r.standing (keeps_datagram r d).standing
    unfolding keeps_datagram
    standing_leaves = grind (arith, ends_not, its_books, opened_none, or-false, standing_is)

  pub unkept_leaves : LeavesSession r.standing (keeps_datagram r d).standing
  unfolding keeps_datagram
  unkept_leaves = grind (arith, standing_leaves)

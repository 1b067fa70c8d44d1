-- A window stands for its past: what carries over each step, and what it answers.
use Rattle.std.proofs.Common.{◌≡◌, ℕ, zero, suc, ◌+◌, ◌<◌, Bool, true, false, List, [], ◌∷◌, ◌++◌, drop, Some, None, refl, ap, sym, ◌∙◌, arith, cond, option_map, append_assoc}
use Rattle.std.specs.List.{last_or}
use Rattle.std.proofs.lemmas.Bool.{cond-true, cond-false, not-true, not_from_false, leb-false}
use Rattle.std.proofs.lemmas.List.Prefix.{front_rest}
use Rattle.std.proofs.lemmas.Option.{none-some}
use Rattle.link_model.specs.Books.{book_of}
use Rattle.link_model.specs.Judgement.{fragment_outcome}
use Rattle.link_model.specs.Numbers.{greatest, least, base_above, is_opened, parts_of, opened_numbers}
use Rattle.link_model.specs.Output.{let_go_numbers}
use Rattle.link_model.specs.Session.{Fragment}
use Rattle.link_model.specs.Windows.{book_at, Window, new_window, number_by, late_in, opens_picture, rises_to, released_up_to, window_enters, window_outcome, Releasable, next_release, releases, finishes, WindowPast, new_past, past_enters, past_releases, past_finishes, past_let_go, releasable_numbers, as_releasable, first_of, window_of, StandsForPast}
use Rattle.link_model.proofs.Leaving.{past, let_go_numbers_grow, last_releases}
use Rattle.link_model.proofs.LettingGo.{is_let_go_by, releasable_over, next_some}
use Rattle.link_model.proofs.Numbering.{enters_follows}
use Rattle.link_model.proofs.RisingNumbers.{numbers_over, begins_with}
use Rattle.link_model.proofs.Windowing.{gone_in, needed_by, books_by, book_of_window, enters_is, outcome_is, finishes_is, releases_is}
use Rattle.vc_types.specs.SequenceHeader.{Sequence}

-- ---- lists

abbrev no_number : List ℕ
no_number = []

drop_none : (n : ℕ) → drop n no_number ≡ []
drop_none zero = refl
drop_none (suc n) = refl

pub first_and_rest : (ns : List ℕ) (n : ℕ) → first_of ns ≡ Some n → (rest : List ℕ) × (ns ≡ n ∷ rest)
first_and_rest [] n is = absurd (none-some n is)
first_and_rest (m ∷ ns) n is = (ns, (let same : m ≡ n = cc in ap (λ k. k ∷ ns) same))

first_passes : (test : ℕ → Bool) (a m n : ℕ) → first_of (numbers_over test a m) ≡ Some n → test n ≡ true
first_passes test a zero n is = absurd (none-some n is)
first_passes test a (suc m) n is = grind (arith, numbers_over, first_passes test (a + 1) m n)

-- ---- what is let go, by whether the input has ended

module _ (p : WindowPast) where
  let_go_running : p.is_ended ≡ false → past_let_go p ≡ let_go_numbers p.size p.sequence p.entries
  let_go_running runs = cond-false p.is_ended (opened_numbers p.entries) (let_go_numbers p.size p.sequence p.entries) runs

-- ---- a new window

pub new_stands : (s : Sequence) (size before : ℕ) → StandsForPast (new_window s size before) (new_past s size before)
unfolding window_of let_go_numbers opened_numbers least greatest parts_of
new_stands s size before = record { value = refl; in_order = refl }

module _ (w : Window) (p : WindowPast) (stands : StandsForPast w p) where
  -- ---- a fragment more

  pub running_is : w.is_ended ≡ false → p.is_ended ≡ false
  unfolding window_of
  running_is runs = sym (ap (λ (v : Window). v.is_ended) stands.value) ∙ runs

  module _ (runs : p.is_ended ≡ false) (f : Fragment) where
    more_in_order : past_let_go (past_enters p f) ≡ p.released ++ releasable_numbers (past_enters p f)
    more_in_order =
        let grown = let_go_numbers_grow p.size p.sequence p.entries (past_enters p f).entries (enters_follows (base_above p.before) p.size p.entries f) in
        begins_with (past_let_go (past_enters p f)) p.released (releasable_numbers p ++ grown.0)
        (let_go_running (past_enters p f) runs
        ∙ grown.1
        ∙ ap (λ (l : List ℕ). l ++ grown.0) (sym (let_go_running p runs) ∙ stands.in_order)
        ∙ append_assoc p.released (releasable_numbers p) grown.0)

    pub enters_stands : StandsForPast (window_enters w f) (past_enters p f)
    enters_stands = record { value = ap (λ (v : Window). window_enters v f) stands.value ∙ enters_is p runs f; in_order = more_in_order }

    pub window_outcome_is : window_outcome w f ≡ fragment_outcome (base_above p.before) p.size p.sequence p.entries f
    window_outcome_is = ap (λ (v : Window). window_outcome v f) stands.value ∙ outcome_is p runs f

  -- ---- the picture that may be released next

  pub next_is : next_release w ≡ option_map (as_releasable p) (first_of (releasable_numbers p))
  unfolding next_release window_of let_go_numbers opened_numbers least greatest parts_of
  next_is = grind (arith, drop_none, next_some)

  -- its number
  pub next_number : (n : ℕ) → option_map (λ (r : Releasable). r.number) (next_release w) ≡ Some n → first_of (releasable_numbers p) ≡ Some n
  next_number n is = grind (arith, next_is)

  -- ---- a release

  module _ (n : ℕ) (next : first_of (releasable_numbers p) ≡ Some n) where
    next_passes : (is_opened p.entries n ≡ true) × (released_up_to (last_or None p.released) n ≡ false)
    next_passes = grind (arith, first_passes, is_let_go_by, not-true, past, releasable_over)

    pub releasable_opened : is_opened p.entries n ≡ true
    releasable_opened = next_passes.0

    -- it is after all that were released
    pub next_is_greater : (m : ℕ) → released_up_to (last_or None p.released) m ≡ true → m < n
    next_is_greater m = grind (arith, leb-false, next_passes)

    split : past_let_go p ≡ (p.released ++ n ∷ []) ++ (first_and_rest (releasable_numbers p) n next).0
    split = grind (arith, append_assoc, first_and_rest)

    pub releases_stands : StandsForPast (releases w n) (past_releases p n)
    releases_stands = grind (arith, begins_with, first_and_rest, next_passes, releases_is, split)

    -- the others are still to be released
    pub releasable_next : releasable_numbers p ≡ n ∷ releasable_numbers (past_releases p n)
    releasable_next = grind (arith, first_and_rest, front_rest, split)

    -- its book is there
    pub book_of_next : book_at w.books n ≡ Some (book_of p.sequence (parts_of n p.entries))
    book_of_next = grind (arith, book_of_window, books_by, gone_in, needed_by, next_passes, not_from_false)

  -- ---- the end

  pub finishes_stands : StandsForPast (finishes w) (past_finishes p)
  finishes_stands = record {
    value = ap finishes stands.value ∙ finishes_is p;
    in_order = by_end p.is_ended refl;
  }
    where
      by_end : (over : Bool) → p.is_ended ≡ over → past_let_go (past_finishes p) ≡ p.released ++ releasable_numbers (past_finishes p)
      by_end true is = begins_with (opened_numbers p.entries) p.released (releasable_numbers p) (sym (cond-true p.is_ended (opened_numbers p.entries) (let_go_numbers p.size p.sequence p.entries) is) ∙ stands.in_order)
      by_end false is =
          let left = last_releases p.size p.sequence p.entries in
          begins_with (opened_numbers p.entries) p.released (releasable_numbers p ++ left.0)
          (left.1 ∙ ap (λ (l : List ℕ). l ++ left.0) (sym (let_go_running p is) ∙ stands.in_order) ∙ append_assoc p.released (releasable_numbers p) left.0)

  -- ---- its books

  pub book_is : (n : ℕ) → book_at w.books n ≡ cond (needed_by p.entries (gone_in p) n) (Some (book_of p.sequence (parts_of n p.entries))) None
  book_is n = ap (λ (v : Window). book_at v.books n) stands.value ∙ book_of_window p n

pub late_leaves : (w : Window) (f : Fragment) → late_in w (number_by w f.number) ≡ true → window_enters w f ≡ w
unfolding window_enters
late_leaves w f late = cond-true (late_in w (number_by w f.number)) w (rises_to (opens_picture w (number_by w f.number) f.part) (number_by w f.number)) late

-- a fragment doesn't end the input
pub enters_runs : (w : Window) (f : Fragment) → (window_enters w f).is_ended ≡ w.is_ended
unfolding window_enters
enters_runs w f = grind arith

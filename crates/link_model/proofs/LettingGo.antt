-- The picture that a window names next is the least that may be released, and pictures are released in the order in
-- which they are let go.
use Rattle.std.proofs.Common.{◌≡◌, ℕ, zero, suc, ◌+◌, ◌<◌, ◌≤◌, Bool, true, false, List, [], ◌∷◌, ◌++◌, Option, Some, None, refl, ap, sym, ◌∙◌, arith, cond, not, ◌&&◌, ◌||◌, is_some, filter, option_map, option_and_then}
use Rattle.std.specs.List.{list_all, range_with_len, last_or}
use Rattle.std.proofs.lemmas.Bool.{lt-leb, and_left, false_from_ne_true, both_ways}
use Rattle.link_model.specs.Books.{Book, book_whole}
use Rattle.link_model.specs.Numbers.{greatest, is_closed, is_opened, parts_of, opened_numbers}
use Rattle.link_model.specs.Output.{complete_at, is_let_go, let_go_numbers}
use Rattle.link_model.specs.Windows.{NumberedBook, with_number, complete_in, let_go_in, released_up_to, first_unreleased, if_let_go, next_release, WindowPast, past_let_go, releasable_numbers, as_releasable, first_of, greatest_behind, window_of}
use Rattle.link_model.proofs.Bookkeeping.{book_whole_is}
use Rattle.link_model.proofs.BooksInOrder.{books_over}
use Rattle.link_model.proofs.Leaving.{past, complete_opened}
use Rattle.link_model.proofs.Releasing.{let_go_before}
use Rattle.link_model.proofs.RisingNumbers.{numbers_over, same_numbers, fewer_numbers, opened_over, first_that, is_behind, behind_front}
use Rattle.link_model.proofs.Windowing.{gone_in, needed_by, books_by, books_range, book_of_window}

-- ---- what is let go, by the window

all_same : (f g : ℕ → Bool) (a n : ℕ) → ((k : ℕ) → a ≤ k → f k ≡ g k) → list_all f (range_with_len a n) ≡ list_all g (range_with_len a n)
all_same f g a zero same = refl
all_same f g a (suc n) same = ap (λ (b : Bool). b && list_all f (range_with_len (a + 1) n)) (same a (omega arith)) ∙ ap (λ (b : Bool). g a && b) (all_same f g (a + 1) n (λ k above. same k (omega arith)))

module _ (p : WindowPast) where
  -- a picture is let go, or the input has ended
  abbrev pub is_let_go_by : ℕ → Bool
  is_let_go_by n = p.is_ended || is_let_go p.size p.sequence p.entries n

  whole_of_book : (n : ℕ) → is_some (book_whole (books_by p.sequence p.entries n)) ≡ complete_at p.sequence p.entries n
  unfolding complete_at
  whole_of_book n = ap is_some (book_whole_is p.sequence (parts_of n p.entries))

  unopened_incomplete : (n : ℕ) → is_opened p.entries n ≡ false → complete_at p.sequence p.entries n ≡ false
  unopened_incomplete n shut = false_from_ne_true (complete_at p.sequence p.entries n) (λ complete. both_ways (is_opened p.entries n) shut (complete_opened p.sequence p.entries n complete))

  module _ (runs : p.is_ended ≡ false) where
    complete_of_window : (n : ℕ) → greatest p.entries < n + p.size → complete_in (window_of p) n ≡ complete_at p.sequence p.entries n
    unfolding is_closed
    complete_of_window n above =
        grind (arith, book_of_window, books_by, gone_in, unopened_incomplete, whole_of_book, and_left, lt-leb)

  let_go_of_window : greatest_behind p.before p.entries ≡ greatest p.entries → (n : ℕ) → let_go_in (window_of p) n ≡ is_let_go_by n
  unfolding window_of is_let_go
  let_go_of_window top n = grind (arith, all_same, complete_of_window)

  down : (f g : ℕ) → f ≤ g → is_let_go_by g ≡ true → is_let_go_by f ≡ true
  down f g less gone = grind (arith, let_go_before)

-- ---- the list of what is let go

all_pass : (ns : List ℕ) → ns ≡ filter (λ n. true) ns
all_pass [] = refl
all_pass (n ∷ ns) = ap (λ (l : List ℕ). n ∷ l) (all_pass ns)

module _ (p : WindowPast) where
  pub let_go_filtered : past_let_go p ≡ filter (is_let_go_by p) (opened_numbers p.entries)
  unfolding let_go_numbers
  let_go_filtered = by_end p.is_ended
    where
      by_end : (over : Bool) → cond over (opened_numbers p.entries) (filter (is_let_go p.size p.sequence p.entries) (opened_numbers p.entries)) ≡ filter (λ n. over || is_let_go p.size p.sequence p.entries n) (opened_numbers p.entries)
      by_end true = all_pass (opened_numbers p.entries)
      by_end false = refl

  abbrev all : ℕ
  all = past p.entries + 0

  let_go_over : past_let_go p ≡ numbers_over (λ k. is_opened p.entries k && is_let_go_by p k) 0 all
  let_go_over = let_go_filtered ∙ opened_over p.entries (is_let_go_by p) all 0 refl

  abbrev behind : ℕ → Bool
  behind k = is_behind (last_or None p.released) k

  -- those that aren't released, where the others were in their order
  module _ (in_order : past_let_go p ≡ p.released ++ releasable_numbers p) where
    pub releasable_over : releasable_numbers p ≡ numbers_over (λ k. (is_opened p.entries k && behind k) && is_let_go_by p k) 0 all
    releasable_over =
        sym (behind_front (λ k. is_opened p.entries k && is_let_go_by p k) 0 all p.released (releasable_numbers p) (sym let_go_over ∙ in_order))
        ∙ fewer_numbers (λ k. is_opened p.entries k && is_let_go_by p k) behind 0 all
        ∙ same_numbers (λ k. (is_opened p.entries k && is_let_go_by p k) && behind k) (λ k. (is_opened p.entries k && behind k) && is_let_go_by p k) 0 all (λ k. exchanged (is_opened p.entries k) (is_let_go_by p k) (behind k))
      where
        exchanged : (a b c : Bool) → ((a && b) && c) ≡ ((a && c) && b)
        exchanged o b c = grind arith

    first_releasable : first_of (releasable_numbers p) ≡ option_and_then (λ k. cond (is_let_go_by p k) (Some k) None) (first_of (numbers_over (λ k. is_opened p.entries k && behind k) 0 all))
    first_releasable = ap first_of releasable_over ∙ first_that (λ k. is_opened p.entries k && behind k) (is_let_go_by p) (down p) 0 all

-- ---- the first book of a picture that isn't released

first_book : (last : Option ℕ) (test : ℕ → Bool) (book : ℕ → Book) (a m : ℕ)
    → first_unreleased last (books_over test book a m) ≡ option_map (λ k. with_number k (book k)) (first_of (numbers_over (λ k. test k && is_behind last k) a m))
first_book last test book a zero = refl
first_book last test book a (suc m) =
    grind (arith, books_over, is_behind, numbers_over, first_book last test book (a + 1) m)

module _ (p : WindowPast) (in_order : past_let_go p ≡ p.released ++ releasable_numbers p) where
  pub next_some : greatest_behind p.before p.entries ≡ greatest p.entries → next_release (window_of p) ≡ option_map (as_releasable p) (first_of (releasable_numbers p))
  unfolding next_release window_of
  next_some top =
      ap (λ (l : List NumberedBook). option_and_then (if_let_go (window_of p)) (first_unreleased (last_or None p.released) l)) (books_range p (all p) 0 refl)
      ∙ ap (option_and_then (if_let_go (window_of p))) (first_book (last_or None p.released) (needed_by p.entries (gone_in p)) (books_by p.sequence p.entries) 0 (all p)
      ∙ ap (λ (l : List ℕ). option_map (λ k. with_number k (books_by p.sequence p.entries k)) (first_of l))
      (same_numbers (λ k. needed_by p.entries (gone_in p) k && behind p k) (λ k. is_opened p.entries k && behind p k) 0 (all p) (λ k. by_tests (is_opened p.entries k) (p.is_ended || is_closed p.size p.entries k) (released_up_to (last_or None p.released) k))))
      ∙ by_first (first_of (numbers_over (λ k. is_opened p.entries k && behind p k) 0 (all p)))
      ∙ ap (option_map (as_releasable p)) (sym (first_releasable p in_order))
    where
      by_tests : (was closed low : Bool) → ((was && not (closed && low)) && not low) ≡ (was && not low)
      by_tests o closed low = grind arith

      by_end : (k : ℕ) (go : Bool) → cond go (Some (as_releasable p k)) None ≡ option_map (as_releasable p) (cond go (Some k) None)
      by_end k true = refl
      by_end k false = refl

      by_first : (o : Option ℕ) → option_and_then (if_let_go (window_of p)) (option_map (λ k. with_number k (books_by p.sequence p.entries k)) o) ≡ option_map (as_releasable p) (option_and_then (λ k. cond (is_let_go_by p k) (Some k) None) o)
      by_first o = grind (arith, books_by, by_end, let_go_of_window, whole_of_book)

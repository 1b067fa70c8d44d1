-- How many books a window has.
use Rattle.std.proofs.Common.{◌≡◌, ℕ, zero, suc, ◌+◌, ◌-◌, ◌<◌, ◌≤◌, max, Bool, true, false, List, [], ◌∷◌, ◌++◌, length, None, refl, ap, sym, subst, ◌∙◌, arith, cond, nat_le, not, ◌&&◌, ◌||◌, filter}
use Rattle.std.specs.List.{last_or}
use Rattle.std.proofs.lemmas.Bool.{and_parts, not-true, leb-false, or_parts}
use Rattle.link_model.specs.Books.{Book}
use Rattle.link_model.specs.Numbers.{Numbered, greatest, is_closed, is_opened}
use Rattle.link_model.specs.Windows.{NumberedBook, Window, closed_in, released_up_to, WindowPast, past_let_go, releasable_numbers, greatest_behind, window_of, StandsForPast}
use Rattle.link_model.proofs.BooksInOrder.{books_over, fewer_books}
use Rattle.link_model.proofs.Leaving.{past}
use Rattle.link_model.proofs.LettingGo.{is_let_go_by, releasable_over}
use Rattle.link_model.proofs.Numbering.{parts_of-outside}
use Rattle.link_model.proofs.Releasing.{closed_is_let_go}
use Rattle.link_model.proofs.RisingNumbers.{numbers_over}
use Rattle.link_model.proofs.Windowing.{gone_in, needed_by, books_by, books_range}

-- ---- few books

-- numbers between two bounds are few
few_between : (test : ℕ → Bool) (book : ℕ → Book) (low size : ℕ) → ((k : ℕ) → test k ≡ true → (low ≤ k) × (k < low + size))
    → (a m : ℕ) → length (books_over test book a m) ≤ low + size - max a low
few_between test book low size within a zero = omega arith
few_between test book low size within a (suc m) =
    grind (arith, books_over, few_between test book low size within (a + 1) m)

pub opened_at_most : (es : List Numbered) (n : ℕ) → is_opened es n ≡ true → n ≤ greatest es
opened_at_most es n opened = grind (arith, parts_of-outside)

-- the books of pictures that aren't closed are at most as many as may be open
module _ (p : WindowPast) where
  at_most_top : greatest p.entries ≤ greatest_behind p.before p.entries
  unfolding greatest
  at_most_top = grind arith

  abbrev open_in : ℕ → Bool
  open_in k = not (p.is_ended || nat_le (k + p.size) (greatest_behind p.before p.entries))

  few_of_window : length (filter (λ (b : NumberedBook). not (closed_in (window_of p) b.number)) (window_of p).books) ≤ p.size
  unfolding window_of
  few_of_window =
      let all = past p.entries + 0 in
      let low = greatest_behind p.before p.entries + 1 - p.size in
      let same : filter (λ (b : NumberedBook). open_in b.number) (window_of p).books ≡ books_over (λ k. needed_by p.entries (gone_in p) k && open_in k) (books_by p.sequence p.entries) 0 all =
      ap (filter (λ (b : NumberedBook). open_in b.number)) (books_range p all 0 refl) ∙ fewer_books (needed_by p.entries (gone_in p)) open_in (books_by p.sequence p.entries) 0 all in
      let few = few_between (λ k. needed_by p.entries (gone_in p) k && open_in k) (books_by p.sequence p.entries) low p.size within 0 all in
      omega (arith, few, ap length same)
    where
      within : (k : ℕ) → (needed_by p.entries (gone_in p) k && open_in k) ≡ true → (greatest_behind p.before p.entries + 1 - p.size ≤ k) × (k < greatest_behind p.before p.entries + 1 - p.size + p.size)
      within k passes =
          grind (arith, at_most_top, gone_in, leb-false, needed_by, not-true, opened_at_most, or_parts)

pub few_books : (w : Window) (p : WindowPast) → StandsForPast w p → length (filter (λ (b : NumberedBook). not (closed_in w b.number)) w.books) ≤ w.size
unfolding window_of
few_books w p stands = subst (λ (v : Window). length (filter (λ (b : NumberedBook). not (closed_in v b.number)) v.books) ≤ v.size) (sym stands.value) (few_of_window p)

-- ---- and once all that are let go are released, no others are left

none_of : (test : ℕ → Bool) (a m : ℕ) → numbers_over test a m ≡ [] → (k : ℕ) → a ≤ k → k < a + m → test k ≡ false
none_of test a zero none k from to = absurd (omega arith)
none_of test a (suc m) none k from to = by_test (test a) refl none (λ rest above. none_of test (a + 1) m rest k above (omega arith))
  where
    by_test : (b : Bool) → test a ≡ b → (cond b (a ∷ []) [] ++ numbers_over test (a + 1) m) ≡ []
        → (numbers_over test (a + 1) m ≡ [] → a + 1 ≤ k → test k ≡ false) → test k ≡ false
    by_test o is none later = grind arith

module _ (p : WindowPast) (in_order : past_let_go p ≡ p.released ++ releasable_numbers p) (none : releasable_numbers p ≡ []) where
  abbrev is_shut : ℕ → Bool
  is_shut k = p.is_ended || is_closed p.size p.entries k

  abbrev is_low : ℕ → Bool
  is_low k = released_up_to (last_or None p.released) k

  shut_goes : (k : ℕ) → is_shut k ≡ true → is_let_go_by p k ≡ true
  unfolding is_closed
  shut_goes k shut = grind (arith, closed_is_let_go)

  -- what is opened and isn't gone isn't closed
  needed_open : (k : ℕ) → needed_by p.entries (gone_in p) k ≡ true → is_shut k ≡ false
  needed_open k needed = by_tests (is_opened p.entries k) (is_shut k) (is_low k) (is_let_go_by p k) needed (shut_goes k)
      (none_of (λ n. (is_opened p.entries n && not (is_low n)) && is_let_go_by p n) 0 (past p.entries + 0) (sym (releasable_over p in_order) ∙ none) k (omega arith) (omega (arith, opened_at_most p.entries k (and_parts (is_opened p.entries k) (not (gone_in p k)) needed).0)))
    where
      by_tests : (was shut low go : Bool) → (was && not (shut && low)) ≡ true → (shut ≡ true → go ≡ true) → ((was && not low) && go) ≡ false → shut ≡ false
      by_tests o shut low go needed goes fails = grind arith

  all_few : length (window_of p).books ≤ p.size
  unfolding window_of is_closed
  all_few =
      let low = greatest p.entries + 1 - p.size in
      let few = few_between (needed_by p.entries (gone_in p)) (books_by p.sequence p.entries) low p.size within 0 (past p.entries + 0) in
      omega (arith, few, ap length (books_range p (past p.entries + 0) 0 refl))
    where
      within : (k : ℕ) → needed_by p.entries (gone_in p) k ≡ true → (greatest p.entries + 1 - p.size ≤ k) × (k < greatest p.entries + 1 - p.size + p.size)
      within k needed = grind (arith, gone_in, leb-false, needed_open, opened_at_most, or_parts)

pub all_books_few : (w : Window) (p : WindowPast) → StandsForPast w p → releasable_numbers p ≡ [] → length w.books ≤ w.size
unfolding window_of
all_books_few w p stands none = subst (λ (v : Window). length v.books ≤ v.size) (sym stands.value) (all_few p stands.in_order none)

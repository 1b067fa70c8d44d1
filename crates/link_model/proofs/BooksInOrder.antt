-- Books of pictures over a range of numbers: those of the numbers that pass a test, in rising order.
use Rattle.std.proofs.Common.{◌≡◌, ℕ, zero, suc, ◌+◌, ◌<◌, ◌≤◌, Bool, true, false, List, [], ◌∷◌, ◌++◌, Some, None, refl, ap, sym, ◌∙◌, inl, inr, arith, cond, nat_lt, ◌&&◌, ◌==◌, filter}
use Rattle.std.specs.List.{flat_map, range_with_len}
use Rattle.std.proofs.lemmas.Bool.{cases_lt, cond-true, lt-ltb, le-ltb}
use Rattle.link_model.specs.Books.{Book, book_of, book_takes}
use Rattle.link_model.specs.Session.{Part}
use Rattle.link_model.specs.Windows.{NumberedBook, with_number, book_at, with_part}
use Rattle.vc_types.specs.SequenceHeader.{Sequence}

abbrev pub picked : (ℕ → Bool) → (ℕ → Book) → ℕ → List NumberedBook
picked test book k = cond (test k) (with_number k (book k) ∷ []) []

-- the books of the numbers from a on, so many of them, that pass a test
abbrev pub books_over : (ℕ → Bool) → (ℕ → Book) → ℕ → ℕ → List NumberedBook
books_over test book a m = flat_map (picked test book) (range_with_len a m)

-- ---- looking up

-- a book that stands first
module _ (k : ℕ) (book : Book) (books : List NumberedBook) (n : ℕ) where
  at_later : k < n → book_at (with_number k book ∷ books) n ≡ book_at books n
  at_later later = cond-true (nat_lt k n) (book_at books n) (cond (k == n) (Some book) None) (lt-ltb k n later)

  at_here : k ≡ n → book_at (with_number k book ∷ books) n ≡ Some book
  at_here here = grind (arith, le-ltb)

module _ (test : ℕ → Bool) (book : ℕ → Book) (n : ℕ) where
  abbrev front : Bool → ℕ → List NumberedBook → List NumberedBook
  front b a books = cond b (with_number a (book a) ∷ []) [] ++ books

  pub none_below : (a m : ℕ) → n < a → book_at (books_over test book a m) n ≡ None
  none_below a zero below = refl
  none_below a (suc m) below = grind (arith, none_below (a + 1) m (omega arith))

  pub book_inside : (a m : ℕ) → a ≤ n → n < a + m → book_at (books_over test book a m) n ≡ cond (test n) (Some (book n)) None
  book_inside a zero from to = absurd (omega arith)
  book_inside a (suc m) from to = elim (cases_lt a n) [
    | inl less ↦ past less (test a) (book_inside (a + 1) m (omega arith) (omega arith))
    | inr more ↦ (let same : a ≡ n = omega arith in here same (test n) (test a) (ap test same))
  ]
    where
      past : a < n → (b : Bool) → book_at (books_over test book (a + 1) m) n ≡ cond (test n) (Some (book n)) None → book_at (front b a (books_over test book (a + 1) m)) n ≡ cond (test n) (Some (book n)) None
      past less true rest = at_later a (book a) (books_over test book (a + 1) m) n less ∙ rest
      past less false rest = rest

      here : a ≡ n → (now b : Bool) → b ≡ now → book_at (front b a (books_over test book (a + 1) m)) n ≡ cond now (Some (book n)) None
      here same o b is = grind (arith, at_here, none_below)

-- ---- the same books, and fewer

pub same_books : (test other : ℕ → Bool) (book later : ℕ → Book) (a m : ℕ)
    → ((k : ℕ) → a ≤ k → k < a + m → picked test book k ≡ picked other later k)
    → books_over test book a m ≡ books_over other later a m
same_books test other book later a zero each = refl
same_books test other book later a (suc m) each = grind (arith, same_books test other book later (a + 1) m)

pub fewer_books : (test keep : ℕ → Bool) (book : ℕ → Book) (a m : ℕ)
    → filter (λ (b : NumberedBook). keep b.number) (books_over test book a m) ≡ books_over (λ k. test k && keep k) book a m
fewer_books test keep book a zero = refl
fewer_books test keep book a (suc m) = grind (arith, fewer_books test keep book (a + 1) m)

-- ---- a part more

module _ (s : Sequence) (n : ℕ) (part : Part) where
  abbrev pub fresh : NumberedBook
  fresh = with_number n (book_takes (book_of s []) part)

  -- before the first book
  module _ (k : ℕ) (book : Book) (books : List NumberedBook) where
    part_later : k < n → with_part s (with_number k book ∷ books) n part ≡ with_number k book ∷ with_part s books n part
    part_later later = cond-true (nat_lt k n) (with_number k book ∷ with_part s books n part) (cond (k == n) (with_number n (book_takes book part) ∷ books) (fresh ∷ with_number k book ∷ books)) (lt-ltb k n later)

  module _ (test : ℕ → Bool) (book : ℕ → Book) where
    opens_first : (a m : ℕ) → n < a → with_part s (books_over test book a m) n part ≡ fresh ∷ books_over test book a m
    opens_first a zero below = refl
    opens_first a (suc m) below = grind (arith, opens_first (a + 1) m (omega arith))

    -- the book of n takes the part, and nothing else changes
    module _ (other : ℕ → Bool) (later : ℕ → Book) (is_open : other n ≡ true)
        (takes : later n ≡ book_takes (cond (test n) (book n) (book_of s [])) part)
        (elsewhere : (k : ℕ) → (k ≡ n → ⊥) → picked other later k ≡ picked test book k) where
      taken_here : (a m : ℕ) → a ≡ n → (b : Bool) → test n ≡ b
          → with_part s (cond b (with_number a (book a) ∷ []) [] ++ books_over test book (a + 1) m) n part ≡ with_number n (later n) ∷ books_over test book (a + 1) m
      taken_here a m same o is = grind (arith, opens_first, le-ltb)

      pub part_inside : (a m : ℕ) → a ≤ n → n < a + m → with_part s (books_over test book a m) n part ≡ books_over other later a m
      part_inside a zero from to = absurd (omega arith)
      part_inside a (suc m) from to = elim (cases_lt a n) [
        | inl less ↦ past less (test a) (part_inside (a + 1) m (omega arith) (omega arith))
            ∙ ap (λ (l : List NumberedBook). l ++ books_over other later (a + 1) m) (sym (elsewhere a (λ same. omega (arith, same, less))))
        | inr more ↦ (let same : a ≡ n = omega arith in
            ap (λ (b : Bool). with_part s (cond b (with_number a (book a) ∷ []) [] ++ books_over test book (a + 1) m) n part) (ap test same)
            ∙ taken_here a m same (test n) refl
            ∙ ap (λ (l : List NumberedBook). with_number n (later n) ∷ l) (same_books test other book later (a + 1) m (λ k above below. sym (elsewhere k (λ here. omega (arith, here, same, above)))))
            ∙ ap (λ (l : List NumberedBook). l ++ books_over other later (a + 1) m) (sym (cond-true (other n) (with_number n (later n) ∷ []) [] is_open) ∙ ap (picked other later) (sym same)))
      ]
        where
          past : a < n → (b : Bool) → with_part s (books_over test book (a + 1) m) n part ≡ books_over other later (a + 1) m
              → with_part s (cond b (with_number a (book a) ∷ []) [] ++ books_over test book (a + 1) m) n part ≡ cond b (with_number a (book a) ∷ []) [] ++ books_over other later (a + 1) m
          past less true rest = part_later a (book a) (books_over test book (a + 1) m) less ∙ ap (λ (l : List NumberedBook). with_number a (book a) ∷ l) rest
          past less false rest = rest

-- What stands at a picture's place among books, and what opening a picture and taking a part into its book leave.
use Rattle.std.proofs.Common.{◌≡◌, ℕ, ◌<◌, ◌≤◌, true, false, List, [], ◌∷◌, length, set, get_or, Option, Some, None, refl, sym, arith, cond, Bor}
use Rattle.std.proofs.Common.{map, Result, Ok, Err, ap, ◌∙◌}
use Rattle.std.specs.Prelude.{◌==◌, IfOk, OnOk, is_some, unwrap_or}
use Rattle.std.specs.Option.{option_copied}
use Rattle.std.specs.List.{insert}
use Rattle.std.proofs.lemmas.Bool.{false≢true}
use Rattle.std.proofs.lemmas.Option.{none-some}
use Rattle.link_model.specs.Books.{Book, book_of, book_takes}
use Rattle.link_model.specs.Session.{Part}
use Rattle.link_model.specs.Windows.{NumberedBook, with_number, book_at, with_part}
use Rattle.link_gather.specs.NewSlices.{brought_slices, new_slices}
use Rattle.link_gather.specs.Views.{new_slice_of}
use Rattle.link_gather.specs.declared.part.Taken.{Taken}
use Rattle.link_window.specs.Places.{number_place, with_book}
use Rattle.vc_types.specs.SequenceHeader.{Sequence}

module _ (n : ℕ) where
  -- ---- looking up

  pub no_place : (books : List NumberedBook) → length books ≤ number_place books n → book_at books n ≡ None
  no_place [] past = refl
  no_place (b ∷ books) past = grind (arith, no_place books)

  pub book_at_place : (books : List NumberedBook) (d : NumberedBook) → number_place books n < length books
      → book_at books n ≡ cond ((get_or books (number_place books n) d).number == n) (Some (get_or books (number_place books n) d).book) None
  book_at_place [] d within = absurd (omega (arith, within))
  book_at_place (b ∷ books) d within = grind (arith, book_at_place books d)

  -- by the book that was read there
  pub found_is : (books : List NumberedBook) (place : ℕ) (b : NumberedBook) → place ≡ number_place books n → place < length books → b ≡ get_or books place b → book_at books n ≡ cond (b.number == n) (Some b.book) None
  found_is books place b is within read = grind (arith, book_at_place)

  module _ (s : Sequence) where
    abbrev pub empty_book : NumberedBook
    empty_book = with_number n (book_of s [])

    -- the picture's book, or an empty one
    abbrev pub own_book : List NumberedBook → Book
    own_book books = unwrap_or (book_at books n) (book_of s [])

    -- ---- opening

    pub opens_none : (books : List NumberedBook) → book_at books n ≡ None → insert books (number_place books n) empty_book ≡ with_book s books n
    opens_none [] none = refl
    opens_none (b ∷ books) none = grind (arith, opens_none books)

    pub opens_some : (books : List NumberedBook) (book : Book) → book_at books n ≡ Some book → books ≡ with_book s books n
    opens_some [] book some = absurd (none-some book some)
    opens_some (b ∷ books) book some = grind (arith, opens_some books book)

    pub place_inside : (books : List NumberedBook) → number_place books n < length (with_book s books n)
    place_inside [] = omega arith
    place_inside (b ∷ books) = grind (arith, place_inside books)

    opened_at_place : (books : List NumberedBook) (d : NumberedBook) → get_or (with_book s books n) (number_place books n) d ≡ with_number n (own_book books)
    opened_at_place [] d = refl
    opened_at_place (b ∷ books) d = grind (arith, opened_at_place books d)

    -- what is read at the place of a picture that was opened
    pub read_own : (books opened : List NumberedBook) (place : ℕ) (b : NumberedBook) → opened ≡ with_book s books n → place ≡ number_place books n → b ≡ get_or opened place b → b ≡ with_number n (own_book books)
    read_own books opened place b is here read = grind (arith, opened_at_place)

    -- ---- a part

    pub takes_at_place : (part : Part) (books : List NumberedBook) → set (with_book s books n) (number_place books n) (with_number n (book_takes (own_book books) part)) ≡ with_part s books n part
    takes_at_place part [] = refl
    takes_at_place part (b ∷ books) = grind (arith, takes_at_place part books)

-- ---- what a look-up answered

pub copied_none : {X : Type 0} (r : Option (Bor X)) (o : Option X) → option_copied r ≡ o → is_some r ≡ false → o ≡ None
copied_none None o is none = sym is
copied_none (Some x) o is none = absurd (false≢true (sym none))

pub copied_some : {X : Type 0} (r : Option (Bor X)) (o : Option X) → option_copied r ≡ o → is_some r ≡ true → (x : X) × (o ≡ Some x)
copied_some None o is some = absurd (false≢true some)
copied_some (Some x) o is some = (x.now, sym is)

-- ---- what a part brings to a picture's book

pub brings_by : {E : Type 0} (r : Result Taken E) (old new book : Book) (part : Part)
    → OnOk r (new ≡ book_takes old part)
    → IfOk r (λ taken. map new_slice_of taken.slices.items ≡ new_slices old new) → old ≡ book
    → IfOk r (λ taken. map new_slice_of taken.slices.items ≡ brought_slices book part)
brings_by (Err e) old new book part takes new_ones is = tt
brings_by (Ok taken) old new book part takes new_ones is =
    new_ones ∙ ap (new_slices old) takes ∙ ap (λ (b : Book). brought_slices b part) is

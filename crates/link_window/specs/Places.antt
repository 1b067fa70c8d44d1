-- Where a picture stands among others in rising order, and how it is opened.
use Rattle.std.specs.Prelude.{ℕ, suc, nat_lt, ◌==◌, if◌then◌else◌, List, [], ◌∷◌}
use Rattle.link_model.specs.Books.{book_of}
use Rattle.link_model.specs.Windows.{NumberedBook, with_number}
use Rattle.vc_types.specs.SequenceHeader.{Sequence}

-- how many books of lesser numbers come first
abbrev pub number_place : List NumberedBook → ℕ → ℕ
number_place [] n = 0
number_place (b ∷ books) n = if nat_lt b.number n then suc (number_place books n) else 0

-- with an empty book for a picture that has none
abbrev pub with_book : Sequence → List NumberedBook → ℕ → List NumberedBook
with_book s [] n = with_number n (book_of s []) ∷ []
with_book s (b ∷ books) n =
    if nat_lt b.number n then b ∷ with_book s books n
    else (if b.number == n then b ∷ books else with_number n (book_of s []) ∷ b ∷ books)

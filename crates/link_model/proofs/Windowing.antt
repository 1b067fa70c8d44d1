-- What a window's value is by its past, and that it stays so with a fragment more, a release, and the end of the input.
use Rattle.std.proofs.Common.{◌≡◌, ℕ, ◌+◌, ◌-◌, ◌^◌, ◌<◌, ◌≤◌, max, Bool, true, false, List, [], ◌∷◌, ◌++◌, map, Option, Some, None, refl, ap, sym, ◌∙◌, arith, cond, nat_lt, nat_le, not, ◌&&◌, ◌||◌, filter}
use Rattle.std.specs.List.{flat_map, range_with_len, last_or}
use Rattle.std.proofs.lemmas.Bool.{and_from, and_left, and_parts, cond-true, le-ltb, lt-ltb, leb-false, not_from_false, or_parts, or_from}
use Rattle.std.proofs.lemmas.List.{append-nil, map-append}
use Rattle.link_model.specs.Books.{Book, book_of, book_takes}
use Rattle.link_model.specs.Judgement.{fragment_outcome}
use Rattle.link_model.specs.Numbers.{Numbered, greatest, base_above, picture_number, is_closed, is_late, is_opened, has_parts, parts_of, least, opened_numbers}
use Rattle.link_model.specs.Session.{Part, Fragment}
use Rattle.link_model.specs.Windows.{NumberedBook, with_number, book_at, with_part, number_by, late_in, released_up_to, stays_in, forgets, opens_picture, rises_to, window_enters, book_in, window_outcome, releases, finishes, WindowPast, past_enters, past_releases, past_finishes, is_needed, needed_numbers, past_book, greatest_behind, is_nothing, window_of}
use Rattle.link_model.proofs.Apart.{base_is_above}
use Rattle.link_model.proofs.Bookkeeping.{takes-more, book_outcome_is}
use Rattle.link_model.proofs.BooksInOrder.{picked, books_over, book_inside, same_books, fewer_books, part_inside}
use Rattle.link_model.proofs.Leaving.{no_parts, past, passing, passing-over}
use Rattle.link_model.proofs.Ranges.{same_pieces}
use Rattle.link_model.proofs.Numbering.{greatest-append, parts_of-append, parts_of-other, late_changes_nothing, early_enters}
use Rattle.vc_types.specs.SequenceHeader.{Sequence}

-- ---- its books

map_flat : {A B C : Type 0} (g : B → C) (f : A → List B) (xs : List A) → map g (flat_map f xs) ≡ flat_map (λ x. map g (f x)) xs
map_flat g f [] = refl
map_flat {C = C} g f (x ∷ xs) = map-append g (f x) (flat_map f xs) ∙ ap (λ (l : List C). map g (f x) ++ l) (map_flat g f xs)

-- books that are needed, by which pictures are opened and which are gone
abbrev pub needed_by : List Numbered → (ℕ → Bool) → ℕ → Bool
needed_by es gone k = is_opened es k && not (gone k)

abbrev pub books_by : Sequence → List Numbered → ℕ → Book
books_by s es k = book_of s (parts_of k es)

module _ (p : WindowPast) where
  abbrev pub gone_in : ℕ → Bool
  gone_in k = (p.is_ended || is_closed p.size p.entries k) && released_up_to (last_or None p.released) k

  pub books_range : (n rest : ℕ) → past p.entries + rest ≡ n
      → map (past_book p) (needed_numbers p) ≡ books_over (needed_by p.entries gone_in) (books_by p.sequence p.entries) 0 n
  books_range n rest size =
      ap (map (past_book p)) (passing-over p.entries (is_needed p) n rest size)
      ∙ map_flat (past_book p) (passing p.entries (is_needed p)) (range_with_len 0 n)
      ∙ same_pieces (λ k. map (past_book p) (passing p.entries (is_needed p) k)) (picked (needed_by p.entries gone_in) (books_by p.sequence p.entries)) each (range_with_len 0 n)
    where
      by_tests : (k : ℕ) (needed was : Bool) → map (past_book p) (cond needed (cond was (k ∷ []) []) []) ≡ cond (was && needed) (past_book p k ∷ []) []
      by_tests k o b = grind arith

      each : (k : ℕ) → map (past_book p) (passing p.entries (is_needed p) k) ≡ picked (needed_by p.entries gone_in) (books_by p.sequence p.entries) k
      each k = by_tests k (is_needed p k) (is_opened p.entries k)

  -- the book of any picture
  pub book_of_window : (n : ℕ) → book_at (window_of p).books n ≡ cond (needed_by p.entries gone_in n) (Some (books_by p.sequence p.entries n)) None
  unfolding window_of
  book_of_window n =
      ap (λ (l : List NumberedBook). book_at l n) (books_range (past p.entries + (n + 1)) (n + 1) refl)
      ∙ book_inside (needed_by p.entries gone_in) (books_by p.sequence p.entries) n 0 (past p.entries + (n + 1)) (omega arith) (omega arith)

-- more books are gone
fewer : (es : List Numbered) (book : ℕ → Book) (gone later : ℕ → Bool) (n : ℕ) → ((k : ℕ) → gone k ≡ true → later k ≡ true)
    → filter (λ (b : NumberedBook). not (later b.number)) (books_over (needed_by es gone) book 0 n) ≡ books_over (needed_by es later) book 0 n
fewer es book gone later n stays =
    fewer_books (needed_by es gone) (λ k. not (later k)) book 0 n
    ∙ same_books (λ k. needed_by es gone k && not (later k)) (needed_by es later) book book 0 n (λ k from to. ap (λ (b : Bool). cond b (with_number k (book k) ∷ []) []) (by_tests (is_opened es k) (gone k) (later k) (stays k)))
  where
    by_tests : (was now then : Bool) → (now ≡ true → then ≡ true) → ((was && not now) && not then) ≡ (was && not then)
    by_tests o now then stays = grind arith

-- ---- numbers

module _ (p : WindowPast) where
  abbrev base : ℕ
  base = base_above p.before

  pub number_of_window : (bits : ℕ) → number_by (window_of p) bits ≡ picture_number base p.entries bits
  unfolding window_of picture_number
  number_of_window bits = grind arith

  -- a first number is above those of the earlier sessions
  first_is_above : (bits : ℕ) → is_nothing p.entries ≡ true → p.before < picture_number base p.entries bits
  unfolding picture_number
  first_is_above bits none = grind (arith, base_is_above)

  late_of_window : (bits : ℕ) → late_in (window_of p) (number_by (window_of p) bits) ≡ is_late p.size p.entries (picture_number base p.entries bits)
  unfolding window_of is_late is_closed greatest
  late_of_window bits = grind (arith, first_is_above, number_of_window)

-- ---- one fragment more

module _ (p : WindowPast) (runs : p.is_ended ≡ false) where
  module _ (n : ℕ) (early : is_late p.size p.entries n ≡ false) where
    unclosed : (p.is_ended || is_closed p.size p.entries n) ≡ false
    unfolding is_late
    unclosed = or_from p.is_ended (is_closed p.size p.entries n) runs (or_parts (is_closed p.size p.entries n) (nat_le (2 ^ 64 - 16) n) early).0

    not_gone : gone_in p n ≡ false
    not_gone = and_left (p.is_ended || is_closed p.size p.entries n) (released_up_to (last_or None p.released) n) unclosed

    -- the book of a picture that isn't closed, or a new one
    open_book : cond (needed_by p.entries (gone_in p) n) (books_by p.sequence p.entries n) (book_of p.sequence []) ≡ books_by p.sequence p.entries n
    open_book = grind (arith, no_parts, not_from_false, not_gone)

    book_in_is : book_in (window_of p) n ≡ books_by p.sequence p.entries n
    unfolding window_of
    book_in_is = grind (arith, book_of_window, open_book)

    module _ (part : Part) where
      abbrev more : List Numbered
      more = p.entries ++ record { number = n; part = part } ∷ []

      own_parts : parts_of n more ≡ parts_of n p.entries ++ part ∷ []
      unfolding parts_of
      own_parts = grind (arith, parts_of-append)

      other_parts : (m : ℕ) → (m ≡ n → ⊥) → parts_of m more ≡ parts_of m p.entries
      other_parts m apart = parts_of-append m p.entries (record { number = n; part = part } ∷ []) ∙ ap (λ (l : List Part). parts_of m p.entries ++ l) (parts_of-other m (record { number = n; part = part }) (λ same. apart (sym same))) ∙ append-nil (parts_of m p.entries)

      rises : greatest more ≡ max (greatest p.entries) n
      unfolding greatest
      rises = omega (arith, greatest-append p.entries (record { number = n; part = part } ∷ []))

      abbrev long : ℕ
      long = past p.entries + (past more + (n + 1))

      opened_now : is_opened more n ≡ true
      opened_now = ap has_parts own_parts ∙ ends (parts_of n p.entries)
        where
          ends : (parts : List Part) → has_parts (parts ++ part ∷ []) ≡ true
          ends [] = refl
          ends (q ∷ parts) = refl

      with_part_is : with_part p.sequence (map (past_book p) (needed_numbers p)) n part ≡ books_over (needed_by more (gone_in p)) (books_by p.sequence more) 0 long
      with_part_is =
          ap (λ (l : List NumberedBook). with_part p.sequence l n part) (books_range p long (past more + (n + 1)) refl)
          ∙ part_inside p.sequence n part (needed_by p.entries (gone_in p)) (books_by p.sequence p.entries) (needed_by more (gone_in p)) (books_by p.sequence more)
          (and_from (is_opened more n) (not (gone_in p n)) opened_now (not_from_false (gone_in p n) not_gone))
          (ap (book_of p.sequence) own_parts ∙ sym (takes-more p.sequence (parts_of n p.entries) part) ∙ ap (λ (b : Book). book_takes b part) (sym open_book))
          (λ k apart. ap (λ (l : List Part). cond (has_parts l && not (gone_in p k)) (with_number k (book_of p.sequence l) ∷ []) []) (other_parts k apart))
          0 long (omega arith) (omega arith)

      abbrev later : WindowPast
      later = record p { entries = more }

      later_books : map (past_book later) (needed_numbers later) ≡ books_over (needed_by more (gone_in later)) (books_by p.sequence more) 0 long
      later_books = books_range later long (past p.entries + (n + 1)) (omega arith)

      not_nothing : is_nothing more ≡ false
      not_nothing = by_entries p.entries
        where
          by_entries : (es : List Numbered) → is_nothing (es ++ record { number = n; part = part } ∷ []) ≡ false
          by_entries [] = refl
          by_entries (e ∷ es) = refl

      top_later : greatest_behind p.before more ≡ greatest more
      top_later = by_entries p.entries
        where
          by_entries : (es : List Numbered) → greatest_behind p.before (es ++ record { number = n; part = part } ∷ []) ≡ greatest (es ++ record { number = n; part = part } ∷ [])
          by_entries [] = refl
          by_entries (e ∷ es) = refl

      top_at_least : greatest p.entries ≤ greatest_behind p.before p.entries
      unfolding greatest
      top_at_least = grind arith

      closed_later : (k : ℕ) → gone_in p k ≡ true → gone_in later k ≡ true
      unfolding is_closed
      closed_later k = grind (arith, rises)

      module _ (above : is_nothing p.entries ≡ true → p.before < n) where
        -- the greatest number rises
        raised : greatest_behind p.before p.entries < n → rises_to (opens_picture (window_of p) n part) n ≡ window_of later
        unfolding window_of is_closed
        raised less =
            let top : n ≡ greatest more = omega (arith, rises, top_at_least, less) in
            let opened = opens_picture (window_of p) n part in
            cond-true (nat_lt (greatest_behind p.before p.entries) n) (forgets (record opened { top = n })) opened (lt-ltb (greatest_behind p.before p.entries) n less)
            ∙ (λ j. record {
              sequence = p.sequence;
              size = p.size;
              top = (top ∙ sym top_later) j;
              is_new = sym not_nothing j;
              last_released = last_or None p.released;
              is_ended = p.is_ended;
              books = (ap (filter (stays_in (record opened { top = n }))) with_part_is
                  ∙ ap (λ t. filter (λ (b : NumberedBook). not ((p.is_ended || nat_le (b.number + p.size) t) && released_up_to (last_or None p.released) b.number)) (books_over (needed_by more (gone_in p)) (books_by p.sequence more) 0 long)) top
                  ∙ fewer more (books_by p.sequence more) (gone_in p) (gone_in later) long closed_later
                  ∙ sym later_books) j;
            })

        stayed : n ≤ greatest_behind p.before p.entries → rises_to (opens_picture (window_of p) n part) n ≡ window_of later
        unfolding window_of is_closed
        stayed high =
            grind (arith, books_over, later_books, le-ltb, not_nothing, rises, top_later, with_part_is)

  -- a fragment more
  pub enters_is : (f : Fragment) → window_enters (window_of p) f ≡ window_of (past_enters p f)
  unfolding window_enters
  enters_is f =
      grind (
        arith,
        early_enters,
        first_is_above,
        late_changes_nothing,
        late_of_window,
        number_of_window,
        raised,
        stayed,
      )

  -- and its outcome
  pub outcome_is : (f : Fragment) → window_outcome (window_of p) f ≡ fragment_outcome (base_above p.before) p.size p.sequence p.entries f
  unfolding window_outcome fragment_outcome
  outcome_is f = grind (arith, book_in_is, book_outcome_is, late_of_window, number_of_window)

-- ---- the end, and a release

module _ (p : WindowPast) where
  abbrev all : ℕ
  all = past p.entries + 0

  pub finishes_is : finishes (window_of p) ≡ window_of (past_finishes p)
  unfolding window_of is_closed
  finishes_is = λ j. record {
    sequence = p.sequence;
    size = p.size;
    top = greatest_behind p.before p.entries;
    is_new = is_nothing p.entries;
    last_released = last_or None p.released;
    is_ended = true;
    books = (ap (filter (stays_in (record (window_of p) { is_ended = true }))) (books_range p all 0 refl)
        ∙ fewer p.entries (books_by p.sequence p.entries) (gone_in p) (gone_in (past_finishes p)) all
        (λ k gone. (and_parts (p.is_ended || nat_le (k + p.size) (greatest p.entries))
        (released_up_to (last_or None p.released) k) gone).1)
        ∙ sym (books_range (past_finishes p) all 0 refl)) j;
  }

last_is : (o : Option ℕ) (ns : List ℕ) (n : ℕ) → last_or o (ns ++ n ∷ []) ≡ Some n
last_is o [] n = refl
last_is o (m ∷ ns) n = last_is (Some m) ns n

-- of a picture after those that were released
module _ (n : ℕ) where
  module _ (p : WindowPast) (behind : released_up_to (last_or None p.released) n ≡ false) (top : greatest_behind p.before p.entries ≡ greatest p.entries) where
    abbrev closed_at : ℕ → ℕ → Bool
    closed_at t k = p.is_ended || nat_le (k + p.size) t

    gone_later : (k : ℕ) → (closed_at (greatest p.entries) k && released_up_to (last_or None p.released) k) ≡ true → (closed_at (greatest p.entries) k && nat_le k n) ≡ true
    gone_later k = grind (arith, leb-false)

    releases_some : releases (window_of p) n ≡ window_of (past_releases p n)
    unfolding window_of is_closed
    releases_some = λ j. record {
      sequence = p.sequence;
      size = p.size;
      top = greatest_behind p.before p.entries;
      is_new = is_nothing p.entries;
      last_released = sym (last_is None p.released n) j;
      is_ended = p.is_ended;
      books = (ap (filter (λ (b : NumberedBook). not (closed_at (greatest_behind p.before p.entries) b.number && nat_le b.number n))) (books_range p (past p.entries + 0) 0 refl)
          ∙ ap (λ t. filter (λ (b : NumberedBook). not (closed_at t b.number && nat_le b.number n)) (books_over (needed_by p.entries (gone_in p)) (books_by p.sequence p.entries) 0 (past p.entries + 0))) top
          ∙ fewer p.entries (books_by p.sequence p.entries) (gone_in p) (λ k. closed_at (greatest p.entries) k && nat_le k n) (past p.entries + 0) gone_later
          ∙ ap (λ (o : Option ℕ). books_over (needed_by p.entries (λ k. closed_at (greatest p.entries) k && released_up_to o k)) (books_by p.sequence p.entries) 0 (past p.entries + 0)) (sym (last_is None p.released n))
          ∙ sym (books_range (past_releases p n) (past p.entries + 0) 0 refl)) j;
    }

  releases_by : (p : WindowPast) → released_up_to (last_or None p.released) n ≡ false → (es : List Numbered)
      → releases (window_of (record p { entries = es })) n ≡ window_of (past_releases (record p { entries = es }) n)
  unfolding window_of opened_numbers least greatest parts_of
  releases_by p behind [] = grind (arith, last_is)
  releases_by p behind (e ∷ es) = releases_some (record p { entries = e ∷ es }) behind refl

  pub releases_is : (p : WindowPast) → released_up_to (last_or None p.released) n ≡ false → releases (window_of p) n ≡ window_of (past_releases p n)
  releases_is p behind = releases_by p behind p.entries

-- The jobs of the slices that a fragment brings are those that are offered.
use Rattle.std.proofs.Common.{◌≡◌, ℕ, ◌+◌, ◌<◌, Bool, true, false, List, [], ◌∷◌, length, map, Option, Some}
use Rattle.std.proofs.Common.{None, refl, ap, sym, ◌∙◌, arith, cond}
use Rattle.std.specs.Prelude.{◌&&◌, ◌||◌, filter, filter_map, is_some, nat_le, nat_lt, not, unwrap_or}
use Rattle.std.specs.List.{cons_option, range_with_len}
use Rattle.std.specs.Option.{option_and_then, option_map, option_map_or}
use Rattle.std.proofs.lemmas.Bool.{lt-leb}
use Rattle.link_model.specs.Books.{Gathered, Book, book_of, book_slice, book_takes}
use Rattle.link_model.specs.Session.{Part, Fragment}
use Rattle.link_model.specs.Windows.{NumberedBook, Window, with_number, with_part, book_at, book_in}
use Rattle.link_model.specs.Windows.{number_by, late_in, released_up_to, stays_in, forgets}
use Rattle.link_model.specs.Windows.{opens_picture}
use Rattle.link_model.specs.Windows.{window_enters}
use Rattle.machine_model.specs.Places.{Job}
use Rattle.receiver_model.specs.Exchanging.{numbers_in, new_job, new_jobs_of}
use Rattle.receiver_model.specs.Exchanging.{offered_jobs}
use Rattle.link_gather.specs.NewSlices.{PictureSlice, slice_at, new_in, new_slices, brought_slices}
use Rattle.link_window.specs.PictureJobs.{picture_job}
use Rattle.link_window.proofs.SessionWindows.{enters_early}
use Rattle.vc_types.specs.SequenceHeader.{Sequence}

-- ---- the book of a picture that a part entered

module _ (s : Sequence) (n : ℕ) (part : Part) where
  abbrev taken : List NumberedBook → Book
  taken books = book_takes (unwrap_or (book_at books n) (book_of s [])) part

  part_entered : (books : List NumberedBook)
      → book_at (with_part s books n part) n ≡ Some (taken books)
  part_entered [] = grind arith
  part_entered (b ∷ books) = grind (arith, part_entered books)

  part_stays : (stays : NumberedBook → Bool) (books : List NumberedBook)
      → stays (with_number n (taken books)) ≡ true
      → book_at (filter stays (with_part s books n part)) n ≡ Some (taken books)
  part_stays stays [] kept = grind arith
  part_stays stays (b ∷ books) kept = grind (arith, part_stays stays books)

-- ---- its jobs

module _ {X : Type 0} (f g : X → Option Job) (same : (x : X) → f x ≡ g x) where
  same_jobs : (l : List X) → filter_map f l ≡ filter_map g l
  same_jobs [] = refl
  same_jobs (x ∷ l) = grind (arith, same_jobs l)

mapped : {X : Type 0} (f : PictureSlice → Job) (h : X → Option PictureSlice) (l : List X)
    → map f (filter_map h l) ≡ filter_map (λ x. option_map f (h x)) l
mapped f h [] = refl
mapped f h (x ∷ l) = by_one (h x) (mapped f h l)
  where
    by_one : (o : Option PictureSlice)
        → map f (filter_map h l) ≡ filter_map (λ x. option_map f (h x)) l
        → map f (cons_option o (filter_map h l))
        ≡ cons_option (option_map f o) (filter_map (λ x. option_map f (h x)) l)
    by_one None rest = rest
    by_one (Some slice) rest = ap (λ (r : List Job). f slice ∷ r) rest

-- a book without parts has no slice
no_slice : (s : Sequence) (i : ℕ) → book_slice (book_of s []) i ≡ None
unfolding book_of Rattle.link_model.specs.Kept.own Rattle.link_model.specs.Kept.split_parts
no_slice s i = refl

module _ (old new : Window) (n : ℕ) (book : Book) (there : book_at new.books n ≡ Some book) where
  was_there : (i : ℕ) → is_some (book_slice (book_in old n) i)
      ≡ is_some (option_and_then (λ (b : Book). book_slice b i) (book_at old.books n))
  was_there i = grind (arith, no_slice)

  one_job : (g : Gathered) → book.gathered ≡ Some g → (i : ℕ)
      → option_map (picture_job n) (cond (is_some (book_slice (book_in old n) i)) None (slice_at g i))
      ≡ new_job old new n i
  one_job g is i = grind (arith, was_there)

  pub jobs_are : map (picture_job n) (new_slices (book_in old n) book) ≡ new_jobs_of old new n
  jobs_are = by_gathered book.gathered refl
    where
      by_gathered : (o : Option Gathered) → book.gathered ≡ o
          → map (picture_job n) (new_slices (book_in old n) book) ≡ new_jobs_of old new n
      by_gathered None is = grind arith
      by_gathered (Some g) is =
          let had = λ (i : ℕ). is_some (book_slice (book_in old n) i) in
          let numbers = range_with_len 0 (length g.slots) in
          ap (λ (o : Option Gathered). map (picture_job n) (option_map_or (new_in had) o [])) is
          ∙ mapped (picture_job n) (λ i. cond (had i) None (slice_at g i)) numbers
          ∙ same_jobs (λ i. option_map (picture_job n) (cond (had i) None (slice_at g i)))
          (new_job old new n) (one_job g is) numbers
          ∙ sym (ap (λ (o : Option Gathered). filter_map (new_job old new n)
          (option_map_or (λ (g : Gathered). range_with_len 0 (length g.slots)) o [])) is)
          ∙ sym (ap (λ (o : Option Book). option_map_or
          (λ (b : Book). filter_map (new_job old new n) (numbers_in b)) o []) there)

-- where nothing changes, nothing is new
pub no_new_jobs : (w : Window) (n : ℕ) → new_jobs_of w w n ≡ []
no_new_jobs w n = by_book (book_at w.books n)
  where
    none : (i : ℕ) → new_job w w n i ≡ None
    none i = grind arith

    none_of : (is : List ℕ) → filter_map (new_job w w n) is ≡ []
    none_of [] = refl
    none_of (i ∷ is) = grind (arith, none, none_of is)

    by_book : (o : Option Book)
        → option_map_or (λ (b : Book). filter_map (new_job w w n) (numbers_in b)) o [] ≡ []
    by_book None = refl
    by_book (Some b) = none_of (numbers_in b)

-- ---- of a fragment

module _ (w : Window) (f : Fragment) (runs : w.is_ended ≡ false) (some : 0 < w.size)
    (early : late_in w (number_by w f.number) ≡ false) where
  abbrev m : ℕ
  m = number_by w f.number

  pub book_entered : book_at (window_enters w f).books m ≡ Some (book_takes (book_in w m) f.part)
  book_entered =
      ap (λ (v : Window). book_at v.books m) (enters_early w f early)
      ∙ by_top (nat_lt w.top m)
    where
      open_still : (low : Bool) → not ((w.is_ended || nat_le (m + w.size) m) && low) ≡ true
      open_still low = rw (runs, lt-leb (m + w.size) m (omega (arith, some))) refl

      by_top : (b : Bool) → book_at (cond b (forgets (record (opens_picture w m f.part) { top = m }))
          (opens_picture w m f.part)).books m ≡ Some (book_takes (book_in w m) f.part)
      by_top true = part_stays w.sequence m f.part
          (stays_in (record (opens_picture w m f.part) { top = m })) w.books
          (open_still (released_up_to w.last_released m))
      by_top false = part_entered w.sequence m f.part w.books

  pub brought_are : map (picture_job m) (brought_slices (book_in w m) f.part)
      ≡ offered_jobs w (window_enters w f) f
  unfolding offered_jobs
  brought_are = jobs_are w (window_enters w f) m (book_takes (book_in w m) f.part) book_entered

-- The jobs that a fragment offers are those of the slices that it brings.
use Rattle.std.proofs.Common.{◌≡◌, ℕ, Bool, true, false, refl, ap, sym, ◌∙◌, arith, List, [], ◌∷◌}
use Rattle.std.proofs.Common.{Option, Some, None, cond, subst}
use Rattle.std.specs.Prelude.{◌&&◌, ◌||◌, is_some, not, filter_map}
use Rattle.std.specs.List.{cons_option, last_or}
use Rattle.std.specs.Option.{option_and_then}
use Rattle.std.proofs.lemmas.Bool.{false≢true}
use Rattle.std.proofs.lemmas.List.{append-nil}
use Rattle.std.proofs.lemmas.Option.{none-some, slice_get_within}
use Rattle.link_model.specs.Books.{Book, book_of}
use Rattle.machine_model.specs.Feeders.{is_among}
use Rattle.machine_model.specs.Feeding.{is_same_job}
use Rattle.link_model.specs.Numbers.{base_above, has_parts, is_closed}
use Rattle.link_model.specs.Numbers.{is_opened, parts_of, picture_number}
use Rattle.machine_model.specs.Places.{Job}
use Rattle.link_model.specs.Session.{Part, Fragment}
use Rattle.link_model.specs.Windows.{Window, WindowPast, StandsForPast, number_by}
use Rattle.link_model.specs.Windows.{window_enters, past_enters, released_up_to}
use Rattle.link_model.proofs.Numbering.{early_enters, enters_follows, late_changes_nothing}
use Rattle.link_model.proofs.Numbering.{parts_of-append, parts_of-other}
use Rattle.machine_model.proofs.SameJobs.{same_itself, same_job}
use Rattle.link_model.proofs.Windowing.{number_of_window}
use Rattle.link_model.proofs.WindowStands.{book_is, enters_stands}
use Rattle.receiver_model.specs.Exchanging.{book_job, window_job, has_slice_in, numbers_in}
use Rattle.receiver_model.specs.Exchanging.{new_jobs_of, offered_jobs, is_job_among}
use Rattle.receiver_model.proofs.ReleaseLists.{among_range}

-- ---- jobs among others

module _ (job_by : ℕ → Option Job) (job : Job) where
  job_among : (is : List ℕ) (i : ℕ) → is_among is i ≡ true → job_by i ≡ Some job
      → is_job_among (filter_map job_by is) job ≡ true
  job_among [] i there at = absurd (false≢true there)
  job_among (k ∷ is) i there at = grind (arith, same_itself, job_among is i)

  from_among : (is : List ℕ) → is_job_among (filter_map job_by is) job ≡ true
      → (i : ℕ) × (job_by i ≡ Some job)
  from_among [] there = absurd (false≢true there)
  from_among (k ∷ is) there = by_job (job_by k) refl there (λ e. from_among is e)
    where
      by_test : (other : Job) → job_by k ≡ Some other → (b : Bool) → is_same_job job other ≡ b
          → (b || is_job_among (filter_map job_by is) job) ≡ true
          → (is_job_among (filter_map job_by is) job ≡ true → (i : ℕ) × (job_by i ≡ Some job))
          → (i : ℕ) × (job_by i ≡ Some job)
      by_test other at true same there later =
          (k, at ∙ ap Some (sym (same_job job other same)))
      by_test other at false differs there later = later there

      by_job : (o : Option Job) → job_by k ≡ o
          → is_job_among (cons_option o (filter_map job_by is)) job ≡ true
          → (is_job_among (filter_map job_by is) job ≡ true → (i : ℕ) × (job_by i ≡ Some job))
          → (i : ℕ) × (job_by i ≡ Some job)
      by_job None at there later = later there
      by_job (Some other) at there later =
          by_test other at (is_same_job job other) refl there later

-- ---- jobs of a window

module _ (w : Window) (n i : ℕ) where
  -- a slice has a job where it is kept
  slice_there : is_some (window_job w n i) ≡ has_slice_in w n i
  slice_there = grind arith

  none_there : window_job w n i ≡ None → has_slice_in w n i ≡ false
  none_there none = sym slice_there ∙ ap (λ (o : Option Job). is_some o) none

  no_job_there : has_slice_in w n i ≡ false → window_job w n i ≡ None
  no_job_there none = grind (arith, slice_there)

  job_numbers : (job : Job) → window_job w n i ≡ Some job → (job.number ≡ n) × (job.index ≡ i)
  job_numbers job is = grind arith

-- a slice that a book keeps is one of its numbers
numbered : (book : Book) (n i : ℕ) (job : Job) → book_job book n i ≡ Some job
    → is_among (numbers_in book) i ≡ true
numbered book n i job is = grind (arith, among_range, slice_get_within)

-- ---- of a picture

module _ (old new : Window) (n : ℕ) where
  -- each slice that it has now and hadn't before is offered
  of_picture : (i : ℕ) (job : Job) → window_job old n i ≡ None → window_job new n i ≡ Some job
      → is_job_among (new_jobs_of old new n) job ≡ true
  of_picture i job none is = grind (arith, job_among, none_there, numbered)

  -- and nothing else is
  only_new : (job : Job) → is_job_among (new_jobs_of old new n) job ≡ true
      → (window_job new job.number job.index ≡ Some job)
      × (window_job old job.number job.index ≡ None)
  only_new job there = grind (arith, from_among, job_numbers, no_job_there)

-- ---- of a fragment

module _ (w : Window) (p : WindowPast) (stands : StandsForPast w p) (runs : p.is_ended ≡ false)
    (f : Fragment) where
  abbrev m : ℕ
  m = picture_number (base_above p.before) p.entries f.number

  number_is : number_by w f.number ≡ m
  number_is = ap (λ (v : Window). number_by v f.number) stands.value
      ∙ number_of_window p f.number

  abbrev pub later : WindowPast
  later = past_enters p f

  pub other_parts : (n : ℕ) → (n ≡ m → ⊥) → parts_of n later.entries ≡ parts_of n p.entries
  other_parts n other =
      grind (arith, late_changes_nothing, early_enters, parts_of-append, parts_of-other, append-nil)

  pub closed_later : (n : ℕ) → is_closed p.size p.entries n ≡ true
      → is_closed p.size later.entries n ≡ true
  unfolding is_closed
  closed_later n closed = grind (arith, enters_follows)

  -- the jobs of other pictures were there before
  module _ (n i : ℕ) (job : Job) (other : n ≡ m → ⊥) where
    abbrev from_book : Option Book → Option Job
    from_book o = option_and_then (λ (book : Book). book_job book n i) o

    abbrev is_low : Bool
    is_low = released_up_to (last_or None p.released) n

    by_tests : (was over low closed closed_then : Bool) → (closed ≡ true → closed_then ≡ true)
        → (book : Book)
        → from_book (cond (was && not ((over || closed_then) && low)) (Some book) None) ≡ Some job
        → from_book (cond (was && not ((over || closed) && low)) (Some book) None) ≡ Some job
    by_tests false over low closed closed_then grows book e = absurd (none-some job e)
    by_tests true true true closed closed_then grows book e = absurd (none-some job e)
    by_tests true true false closed closed_then grows book e = e
    by_tests true false true closed true grows book e = absurd (none-some job e)
    by_tests true false false true true grows book e = e
    by_tests true false false false true grows book e = e
    by_tests true false low true false grows book e = absurd (false≢true (grows refl))
    by_tests true false low false false grows book e = e

    other_jobs : window_job (window_enters w f) n i ≡ Some job → window_job w n i ≡ Some job
    other_jobs is =
        let now : from_book (cond (is_opened later.entries n
        && not ((p.is_ended || is_closed p.size later.entries n) && is_low))
        (Some (book_of p.sequence (parts_of n later.entries))) None) ≡ Some job =
        sym (ap from_book (book_is (window_enters w f) later (enters_stands w p stands runs f) n))
        ∙ is in
        let same : from_book (cond (has_parts (parts_of n p.entries)
        && not ((p.is_ended || is_closed p.size later.entries n) && is_low))
        (Some (book_of p.sequence (parts_of n p.entries))) None) ≡ Some job =
        subst (λ (l : List Part). from_book (cond (has_parts l
        && not ((p.is_ended || is_closed p.size later.entries n) && is_low))
        (Some (book_of p.sequence l)) None) ≡ Some job) (other_parts n other) now in
        ap from_book (book_is w p stands n)
        ∙ by_tests (is_opened p.entries n) p.is_ended is_low (is_closed p.size p.entries n)
        (is_closed p.size later.entries n) (closed_later n)
        (book_of p.sequence (parts_of n p.entries)) same

  pub all_offered : (n i : ℕ) (job : Job) → window_job w n i ≡ None
      → window_job (window_enters w f) n i ≡ Some job
      → is_job_among (offered_jobs w (window_enters w f) f) job ≡ true
  unfolding offered_jobs
  all_offered n i job none is = grind (arith, number_is, of_picture, other_jobs)

pub only_offered : (old new : Window) (f : Fragment) (job : Job)
    → is_job_among (offered_jobs old new f) job ≡ true
    → (window_job new job.number job.index ≡ Some job)
    × (window_job old job.number job.index ≡ None)
unfolding offered_jobs
only_offered old new f job there = only_new old new (number_by old f.number) job there

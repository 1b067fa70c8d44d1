-- What a receiver offers to places, and what it takes back (this project's own): runs of slices of one
-- picture. A decoded slice is used only where its plan, number, index and bytes are the receiver's own.
use Rattle.std.specs.Prelude.{ℕ, ◌==◌, Bool, false, ◌&&◌, not, is_some, is_none, List}
use Rattle.std.specs.Prelude.{if◌then◌else◌, [], ◌∷◌, ◌++◌, length, filter, filter_map, fold, map}
use Rattle.std.specs.Prelude.{Option, Some, None}
use Rattle.std.specs.List.{flat_map, list_any, range_with_len}
use Rattle.std.specs.Option.{option_and_then, option_map, option_map_or}
use Rattle.link_model.specs.Books.{Gathered, Book, slot_at, book_slice}
use Rattle.machine_model.specs.Feeding.{is_same_job}
use Rattle.machine_model.specs.Places.{Job, Answered}
use Rattle.link_model.specs.Session.{Fragment}
use Rattle.link_model.specs.Windows.{Window, book_at, number_by, released_up_to}
use Rattle.receiver_model.specs.Receptions.{StandingSession, RunOut, Reception}
use Rattle.receiver_model.specs.Receptions.{kept_answer, keeps_answer}

-- ---- the jobs of slices

abbrev pub gathered_job : Gathered → ℕ → ℕ → List ℕ → Job
gathered_job g n i bytes = record {
  plan = g.plan.parameters;
  number = n;
  index = i;
  bytes = bytes;
}

abbrev pub slot_job : Gathered → ℕ → ℕ → Option Job
slot_job g n i = option_map (gathered_job g n i) (slot_at g.slots i)

abbrev pub book_job : Book → ℕ → ℕ → Option Job
book_job book n i = option_and_then (λ g. slot_job g n i) book.gathered

-- the job of a slice that a picture of the window keeps
abbrev pub window_job : Window → ℕ → ℕ → Option Job
window_job w n i = option_and_then (λ book. book_job book n i) (book_at w.books n)

-- ---- the jobs that are offered: of each slice that a fragment brings

abbrev pub has_slice_in : Window → ℕ → ℕ → Bool
has_slice_in w n i =
    is_some (option_and_then (λ book. book_slice book i) (book_at w.books n))

abbrev pub numbers_in : Book → List ℕ
numbers_in book = option_map_or (λ g. range_with_len 0 (length g.slots)) book.gathered []

abbrev pub new_job : Window → Window → ℕ → ℕ → Option Job
new_job old new n i = if has_slice_in old n i then None else window_job new n i

abbrev pub new_jobs_of : Window → Window → ℕ → List Job
new_jobs_of old new n = option_map_or
    (λ book. filter_map (new_job old new n) (numbers_in book)) (book_at new.books n) []

-- by the window before and after the fragment
unfoldable pub offered_jobs : Window → Window → Fragment → List Job
offered_jobs old new f = new_jobs_of old new (number_by old f.number)

abbrev pub is_job_among : List Job → Job → Bool
is_job_among jobs job = list_any (is_same_job job) jobs

-- ---- what is taken back

-- a picture that isn't released keeps this slice
abbrev pub unreleased_job : StandingSession → ℕ → ℕ → Option Job
unreleased_job st n i =
    if released_up_to st.window.last_released n then None else window_job st.window n i

abbrev pub own_job : Reception → ℕ → ℕ → Option Job
own_job r n i = option_and_then (λ st. unreleased_job st n i) r.standing

-- it is the receiver's own job
abbrev pub is_own : Reception → Job → Bool
is_own r job = option_map_or (is_same_job job) (own_job r job.number job.index) false

-- and its slice has no answer
abbrev pub is_wanted : Reception → Answered → Bool
is_wanted r done =
    is_own r done.job && is_none (kept_answer r.answers done.job.number done.job.index)

unfoldable pub takes_done : Reception → Answered → Reception
takes_done r done =
    if is_wanted r done then record r { answers = keeps_answer r.answers done } else r

abbrev pub takes_dones : Reception → List Answered → Reception
takes_dones r dones = fold takes_done r dones

-- ---- one call after another

-- the jobs of a run were offered, and have the place that was answered, if one was; a place was asked,
-- and gave what its run was decoded to, if it was; a run that waited was taken back from its place;
-- jobs were decoded by the receiver itself, of which places aren't told
pub data Exchange : Type 0 where
  Proposed : (jobs : List Job) → (place : Option ℕ) → Exchange
  Fetched : (place : ℕ) → (dones : Option (List Answered)) → Exchange
  Withdrawn : (place : ℕ) → Exchange
  Made : (dones : List Answered) → Exchange

-- the number of the picture of which these are jobs, that of the first one
abbrev pub jobs_number : List Job → ℕ
jobs_number [] = 0
jobs_number (job ∷ jobs) = job.number

abbrev pub out_at : List Job → ℕ → RunOut
out_at jobs place = record {
  number = jobs_number jobs;
  indices = map (λ job. job.index) jobs;
  place = place;
}

abbrev pub not_at : ℕ → RunOut → Bool
not_at place run = not (run.place == place)

abbrev pub back_from : Reception → ℕ → Reception
back_from r place = record r { out = filter (not_at place) r.out }

abbrev pub exchanged : Reception → Exchange → Reception
exchanged r (Proposed jobs None) = r
exchanged r (Proposed jobs (Some place)) = record r { out = r.out ++ out_at jobs place ∷ [] }
exchanged r (Fetched place None) = r
exchanged r (Fetched place (Some dones)) = takes_dones (back_from r place) dones
exchanged r (Withdrawn place) = back_from r place
exchanged r (Made dones) = takes_dones r dones

abbrev pub all_exchanged : Reception → List Exchange → Reception
all_exchanged r exchanges = fold exchanged r exchanges

abbrev pub given_back : Exchange → List Answered
given_back (Proposed jobs place) = []
given_back (Fetched place None) = []
given_back (Fetched place (Some dones)) = dones
given_back (Withdrawn place) = []
given_back (Made dones) = dones

-- what was decoded, in the order in which it was given back or made
abbrev pub dones_in : List Exchange → List Answered
dones_in exchanges = flat_map given_back exchanges

-- Places between a feeder and its workers (this project's own). A place has the job of a slice or
-- nothing, and a serial that rises with each job, so that a worker that was slow doesn't meet the
-- next job of the place that it held.
use Rattle.std.specs.Prelude.{◌≡◌, ℕ, ◌+◌, ◌^◌, Bool, true, false, ◌&&◌, nat_lt, ◌==◌}
use Rattle.std.specs.Prelude.{if◌then◌else◌}
use Rattle.std.specs.Prelude.{List, length, slice_index_or, slice_set, replicate, Option, Some}
use Rattle.std.specs.Prelude.{None, Result}
use Rattle.std.specs.List.{list_any}
use Rattle.std.specs.Option.{option_map_or}
use Rattle.machine_model.specs.declared.place_state.PlaceState.{PlaceState}
use Rattle.machine_model.specs.declared.place_state.PlaceState.TheVariants.{Empty, Waiting, Held, Done}
use Rattle.vc_types.specs.Slices.{Coefficients, slice_coefficients}
use Rattle.vc_types.specs.TransformParameters.{Parameters}
use Rattle.vc_types.specs.declared.refusal.Unsound.{Unsound}

-- ---- jobs

-- a slice that is to be decoded: the plan and the number of its picture, its own number there, and
-- its bytes
pub record Job : Type 0 where
  pub plan : Parameters
  pub number : ℕ
  pub index : ℕ
  pub bytes : List ℕ

-- a job, and what it was decoded to
pub record Answered : Type 0 where
  pub job : Job
  pub answer : Result Coefficients Unsound

-- the job's own decoding
abbrev pub decoding : Job → Result Coefficients Unsound
decoding job = slice_coefficients job.plan job.index job.bytes

abbrev pub own_answer : Job → Answered
own_answer job = record { job = job; answer = decoding job }

-- the job is of this slice of this picture
abbrev pub is_of_slice : ℕ → ℕ → Job → Bool
is_of_slice number index job = job.number == number && job.index == index

-- ---- places

-- what stands in a place
pub data Content : Type 0 where
  Nothing : Content
  Offered : (job : Job) → Content
  Claimed : (worker : ℕ) → (job : Job) → Content
  Decoded : (done : Answered) → Content

pub record JobPlace : Type 0 where
  pub serial : ℕ
  pub content : Content

abbrev pub state_of : Content → PlaceState
state_of Nothing = Empty
state_of (Offered job) = Waiting
state_of (Claimed worker job) = Held
state_of (Decoded done) = Done

abbrev pub job_in : Content → Option Job
job_in Nothing = None
job_in (Offered job) = Some job
job_in (Claimed worker job) = Some job
job_in (Decoded done) = Some done.job

-- a place that nothing was put into yet
abbrev pub unused_place : JobPlace
unused_place = record { serial = 0; content = Nothing }

abbrev pub unused_places : ℕ → List JobPlace
unused_places n = replicate n unused_place

-- a place past the last is as if it were unused
abbrev pub place_at : List JobPlace → ℕ → JobPlace
place_at places place = slice_index_or places place unused_place

-- ---- what is asked of places

abbrev pub state_number : PlaceState → ℕ
state_number Empty = 0
state_number Waiting = 1
state_number Held = 2
state_number Done = 3

abbrev pub is_in : PlaceState → JobPlace → Bool
is_in state p = state_number (state_of p.content) == state_number state

-- it is empty, and its serial may still rise
abbrev pub is_free : JobPlace → Bool
is_free p = is_in Empty p && nat_lt p.serial (2 ^ 61)

-- it has a job of this slice
abbrev pub has_slice : ℕ → ℕ → JobPlace → Bool
has_slice number index p = option_map_or (is_of_slice number index) (job_in p.content) false

-- the place is there, and free
abbrev pub may_put : List JobPlace → ℕ → Bool
may_put places place = nat_lt place (length places) && is_free (place_at places place)

-- one of the places has a job of this slice
abbrev pub stands_in : List JobPlace → ℕ → ℕ → Bool
stands_in places number index = list_any (has_slice number index) places

-- ---- what happens to places

abbrev pub with_content : List JobPlace → ℕ → Content → List JobPlace
with_content places place content =
    slice_set places place (record (place_at places place) { content = content })

-- a job comes to a place, whose serial rises
abbrev pub puts_job : List JobPlace → ℕ → Job → List JobPlace
puts_job places place job = slice_set places place (record {
  serial = (place_at places place).serial + 1;
  content = Offered job;
})

abbrev pub claimed_by : ℕ → Content → Content
claimed_by worker (Offered job) = Claimed worker job
claimed_by worker other = other

-- a worker claims the job that waits there
abbrev pub claims_job : List JobPlace → ℕ → ℕ → List JobPlace
claims_job places worker place =
    with_content places place (claimed_by worker (place_at places place).content)

abbrev pub decoded_there : Content → Content
decoded_there (Claimed worker job) = Decoded (own_answer job)
decoded_there other = other

-- a worker that held the place with this serial has decoded its job; a completion with another
-- serial changes nothing
abbrev pub completes_job : List JobPlace → ℕ → ℕ → List JobPlace
completes_job places place serial =
    if (place_at places place).serial == serial
    then with_content places place (decoded_there (place_at places place).content)
    else places

-- what stood there is taken back, withdrawn or left
abbrev pub frees_place : List JobPlace → ℕ → List JobPlace
frees_place places place = with_content places place Nothing

-- ---- what holds of them

-- no slice stands in two places
abbrev pub AreApart : List JobPlace → Type 0
AreApart places = (number index p q : ℕ)
    → has_slice number index (place_at places p) ≡ true
    → has_slice number index (place_at places q) ≡ true → p ≡ q

abbrev pub HasOwnAnswer : Content → Type 0
HasOwnAnswer (Decoded done) = done.answer ≡ decoding done.job
HasOwnAnswer other = Unit {0}

-- what was decoded is each time the job's own decoding
abbrev pub HaveOwnAnswers : List JobPlace → Type 0
HaveOwnAnswers places = (place : ℕ) → HasOwnAnswer (place_at places place).content

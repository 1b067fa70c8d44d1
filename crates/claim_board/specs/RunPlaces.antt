-- The board's places, each with a run or nothing, and how they show places of the machine: the slices of the
-- run at place p stand at the machine's places from 32 p on.
use Rattle.std.specs.Prelude.{◌≡◌, ℕ, ◌+◌, ◌*◌, ◌^◌, ◌<◌, ◌≤◌, Bool, ◌&&◌, nat_lt, ◌==◌, if◌then◌else◌}
use Rattle.std.specs.Prelude.{List, length, map, slice_get, slice_index_or, slice_set, replicate}
use Rattle.std.specs.Option.{option_map_or}
use Rattle.machine_model.specs.Places as machine
use Rattle.machine_model.specs.Places.{Answered, Job, JobPlace, own_answer, state_number}
use Rattle.machine_model.specs.declared.place_state.PlaceState.{PlaceState}
use Rattle.machine_model.specs.declared.place_state.PlaceState.TheVariants.{Empty, Waiting, Held, Done}

-- the most slices of a run, and as many places of the machine
abbrev pub run_places : ℕ
run_places = 32

-- the machine's place of slice number k of the run at a place
abbrev pub machine_place : ℕ → ℕ → ℕ
machine_place place k = run_places * place + k

-- what stands in a place: the jobs of a run, or what they were decoded to
pub data Content : Type 0 where
  Nothing : Content
  Offered : (jobs : List Job) → Content
  Claimed : (worker : ℕ) → (jobs : List Job) → Content
  Decoded : (dones : List Answered) → Content

pub record RunPlace : Type 0 where
  pub serial : ℕ
  pub content : Content

abbrev pub state_of : Content → PlaceState
state_of Nothing = Empty
state_of (Offered jobs) = Waiting
state_of (Claimed worker jobs) = Held
state_of (Decoded dones) = Done

abbrev pub unused_place : RunPlace
unused_place = record { serial = 0; content = Nothing }

abbrev pub unused_places : ℕ → List RunPlace
unused_places n = replicate n unused_place

-- a place past the last is as if it were unused
abbrev pub place_at : List RunPlace → ℕ → RunPlace
place_at places place = slice_index_or places place unused_place

abbrev pub is_in : PlaceState → RunPlace → Bool
is_in state p = state_number (state_of p.content) == state_number state

-- it is empty, and its serial may still rise
abbrev pub is_free : RunPlace → Bool
is_free p = is_in Empty p && nat_lt p.serial (2 ^ 61)

-- the place is there, and free
abbrev pub may_put : List RunPlace → ℕ → Bool
may_put places place = nat_lt place (length places) && is_free (place_at places place)

-- ---- what happens to places

abbrev pub with_content : List RunPlace → ℕ → Content → List RunPlace
with_content places place content =
    slice_set places place (record (place_at places place) { content = content })

-- a run comes to a place, whose serial rises
abbrev pub puts_run : List RunPlace → ℕ → List Job → List RunPlace
puts_run places place jobs = slice_set places place (record {
  serial = (place_at places place).serial + 1;
  content = Offered jobs;
})

abbrev pub claimed_by : ℕ → Content → Content
claimed_by worker (Offered jobs) = Claimed worker jobs
claimed_by worker other = other

-- a worker claims the run that waits there
abbrev pub claims_run : List RunPlace → ℕ → ℕ → List RunPlace
claims_run places worker place =
    with_content places place (claimed_by worker (place_at places place).content)

abbrev pub decoded_there : Content → Content
decoded_there (Claimed worker jobs) = Decoded (map own_answer jobs)
decoded_there other = other

-- a worker that held the place with this serial has decoded its run; a completion with another
-- serial changes nothing
abbrev pub completes_run : List RunPlace → ℕ → ℕ → List RunPlace
completes_run places place serial =
    if (place_at places place).serial == serial
    then with_content places place (decoded_there (place_at places place).content)
    else places

-- what stood there is taken back or withdrawn
abbrev pub frees_place : List RunPlace → ℕ → List RunPlace
frees_place places place = with_content places place Nothing

-- ---- as the machine's places

-- what stands at slice number k of it
abbrev pub content_of : Content → ℕ → machine.Content
content_of Nothing k = machine.Nothing
content_of (Offered jobs) k = option_map_or machine.Offered (slice_get jobs k) machine.Nothing
content_of (Claimed worker jobs) k =
    option_map_or (machine.Claimed worker) (slice_get jobs k) machine.Nothing
content_of (Decoded dones) k = option_map_or machine.Decoded (slice_get dones k) machine.Nothing

-- a run has at most 32 slices, and at least one
abbrev pub IsOfRun : Content → Type 0
IsOfRun Nothing = Unit {0}
IsOfRun (Offered jobs) = (0 < length jobs) × (length jobs ≤ run_places)
IsOfRun (Claimed worker jobs) = (0 < length jobs) × (length jobs ≤ run_places)
IsOfRun (Decoded dones) = (0 < length dones) × (length dones ≤ run_places)

-- The machine's places of a place: at each the slice that stands there, and a serial that rose at most as
-- often as that of the place, since a run may have had fewer slices.
pub record ShowsRun (places : List JobPlace) (place : ℕ) (p : RunPlace) : Type 0 where
  pub of_run : IsOfRun p.content
  pub serials : (k : ℕ) → k < run_places
      → (machine.place_at places (machine_place place k)).serial ≤ p.serial
  pub contents : (k : ℕ) → k < run_places
      → (machine.place_at places (machine_place place k)).content ≡ content_of p.content k

-- and so do all of them
pub record ShowRuns (places : List JobPlace) (runs : List RunPlace) : Type 0 where
  pub many : length places ≡ run_places * length runs
  pub each : (place : ℕ) → place < length runs → ShowsRun places place (place_at runs place)

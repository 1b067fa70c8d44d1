-- Calls of a form of places, what it tells of them, and what they do to the runs that are out.
use Rattle.std.specs.Prelude.{◌≡◌, ℕ, ◌<◌, true, List, [], ◌∷◌, ◌++◌, filter, is_some, map, not}
use Rattle.std.specs.Prelude.{Option, Some, None}
use Rattle.std.specs.Option.{option_map}
use Rattle.machine_model.specs.Places.{Answered}
use Rattle.receiver_model.specs.Exchanging.{Exchange, Proposed, Fetched, Withdrawn, Made, out_at, not_at}
use Rattle.receiver_model.specs.Receptions.{RunOut}
use Rattle.receiver_model.specs.Releasing.{is_of_other}
use Rattle.vc_slice.specs.Asked.{Told, nothing_told, told_more, one_offer, taking}
use Rattle.vc_slice.specs.declared.run.RunDone.{RunDone}
use Rattle.vc_slice.specs.declared.run.RunJob.{RunJob}
use Rattle.vc_slice.specs.declared.run.RunLoad.{RunLoad}
use Rattle.link_slices.specs.Jobs.{answered_run, jobs_of_run}

-- ---- calls

-- a run was put into the place that was answered, or handed back; a place was asked, and gave what was
-- decoded there, if it was; a run that waited was withdrawn from its place; and slices were decoded by
-- the receiver itself, of which nothing is told
pub data PlaceCall : Type 0 where
  Puts : (run : RunJob) → (answer : Option ℕ) → PlaceCall
  Takes : (place : ℕ) → (answer : Option RunDone) → PlaceCall
  Withdraws : (place : ℕ) → PlaceCall
  Makes : (dones : List Answered) → PlaceCall

abbrev pub told_by : PlaceCall → Told
told_by (Puts run answer) = one_offer run answer
told_by (Takes place answer) = taking place answer
told_by (Withdraws place) = record nothing_told { freed = place ∷ [] }
told_by (Makes dones) = nothing_told

-- in the order of the calls
abbrev pub told_of : List PlaceCall → Told
told_of [] = nothing_told
told_of (call ∷ rest) = told_more (told_by call) (told_of rest)

abbrev pub exchange_by : PlaceCall → Exchange
exchange_by (Puts run answer) = Proposed (jobs_of_run run) answer
exchange_by (Takes place answer) = Fetched place (option_map answered_run answer)
exchange_by (Withdraws place) = Withdrawn place
exchange_by (Makes dones) = Made dones

abbrev pub exchanges_of : List PlaceCall → List Exchange
exchanges_of calls = map exchange_by calls

-- ---- the runs that are out

-- each place is below the bound
abbrev pub PlacesAreBelow : ℕ → List RunOut → Type 0
PlacesAreBelow bound [] = Unit {0}
PlacesAreBelow bound (run ∷ rest) = (run.place < bound) × PlacesAreBelow bound rest

-- behind an exchange
abbrev pub out_exchanged : List RunOut → Exchange → List RunOut
out_exchanged out (Proposed jobs None) = out
out_exchanged out (Proposed jobs (Some place)) = out ++ out_at jobs place ∷ []
out_exchanged out (Fetched place None) = out
out_exchanged out (Fetched place (Some dones)) = filter (not_at place) out
out_exchanged out (Withdrawn place) = filter (not_at place) out
out_exchanged out (Made dones) = out

-- where a place was to give its run back, and did or didn't
abbrev pub out_withdrawn : List RunOut → ℕ → Option RunLoad → List RunOut
out_withdrawn out place None = out
out_withdrawn out place (Some load) = out_exchanged out (Withdrawn place)

-- the places of a picture's runs
abbrev pub places_of_picture : ℕ → List RunOut → List ℕ
places_of_picture n out =
    map (λ run. run.place) (filter (λ run. not (is_of_other n run)) out)

-- each is freed
abbrev pub freeing : List ℕ → Told
freeing places = record nothing_told { freed = places }

-- a run that was offered is handed back where no place was answered
abbrev pub is_handed_back : Option ℕ → Option RunLoad → Type 0
is_handed_back (Some place) back = back ≡ None
is_handed_back None back = is_some back ≡ true

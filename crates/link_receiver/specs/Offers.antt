-- What a receiver offers to places, and which places it asks.
use Rattle.std.specs.Prelude.{◌≡◌, ◌⊎◌, ℕ, ◌==◌, Bool, false, List, [], ◌∷◌, ◌++◌, map, slice_get}
use Rattle.std.specs.Prelude.{Option, Some, None, is_some, ⊤}
use Rattle.std.specs.List.{flat_map, list_any, list_all}
use Rattle.std.specs.Option.{option_map_or}
use Rattle.machine_model.specs.Places.{Job, own_answer}
use Rattle.receiver_model.specs.Exchanging.{Exchange, Proposed, Fetched, Withdrawn, Made}
use Rattle.receiver_model.specs.Receptions.{Reception, RunOut}
use Rattle.receiver_model.specs.Releasing.{next_picture}
use Rattle.link_slices.specs.Jobs.{jobs_of_run}
use Rattle.vc_slice.specs.declared.run.RunJob.{RunJob}

abbrev pub proposed_by : Exchange → List Exchange
proposed_by (Proposed jobs place) = Proposed jobs place ∷ []
proposed_by (Fetched place answer) = []
proposed_by (Withdrawn place) = []
proposed_by (Made dones) = []

-- the offers, with the place that each run has or none, in their order
abbrev pub proposed_in : List Exchange → List Exchange
proposed_in exchanges = flat_map proposed_by exchanges

-- the jobs of a run are offered once, or they are handed back and offered a second time
abbrev pub IsOfferOf : List Job → List Exchange → Type 0
IsOfferOf jobs offers = ((place : Option ℕ) × (offers ≡ Proposed jobs place ∷ []))
    ⊎ ((place : Option ℕ) × (offers ≡ Proposed jobs None ∷ Proposed jobs place ∷ []))

-- each run in this order, a second time only where it was handed back
abbrev pub AreRunOffers : List RunJob → List Exchange → Type 0
AreRunOffers [] offers = offers ≡ []
AreRunOffers (run ∷ runs) offers = (first : List Exchange) × (rest : List Exchange)
    × IsOfferOf (jobs_of_run run) first × AreRunOffers runs rest × (offers ≡ first ++ rest)

-- these jobs in this order, in some runs
abbrev pub AreOffersOf : List Job → List Exchange → Type 0
AreOffersOf jobs offers =
    (runs : List RunJob) × (flat_map jobs_of_run runs ≡ jobs) × AreRunOffers runs offers

-- Slices are decoded here only of the run that was handed back last, and no run is taken back that waits.
-- The jobs are those of that run.
abbrev pub MakesHandedBack : (handed : List Job) → List Exchange → Type 0
MakesHandedBack handed [] = ⊤
MakesHandedBack handed (Proposed jobs None ∷ rest) = MakesHandedBack jobs rest
MakesHandedBack handed (Proposed jobs (Some place) ∷ rest) = MakesHandedBack [] rest
MakesHandedBack handed (Fetched place answer ∷ rest) = MakesHandedBack handed rest
MakesHandedBack handed (Withdrawn place ∷ rest) = ⊥
MakesHandedBack handed (Made dones ∷ rest) =
    ((dones ≡ []) ⊎ (dones ≡ map own_answer handed)) × MakesHandedBack handed rest

-- Where no picture may be released, nothing else is decoded here.
abbrev pub DecodesLittle : Reception → List Exchange → Type 0
DecodesLittle old exchanges = is_some (next_picture old) ≡ false → MakesHandedBack [] exchanges

abbrev pub asked_by : Exchange → List ℕ
asked_by (Proposed jobs place) = []
asked_by (Fetched place answer) = place ∷ []
asked_by (Withdrawn place) = place ∷ []
asked_by (Made dones) = []

-- the places that were asked, or whose run was taken back
abbrev pub asked_in : List Exchange → List ℕ
asked_in exchanges = flat_map asked_by exchanges

abbrev pub is_asked : List ℕ → RunOut → Bool
is_asked asked run = list_any (λ place. place == run.place) asked

-- the place of each of these runs was asked
abbrev pub are_asked : List RunOut → List Exchange → Bool
are_asked out exchanges = list_all (is_asked (asked_in exchanges)) out

-- the place of the run at this position was asked, if there is one, and no other
abbrev pub asked_at : List RunOut → ℕ → List ℕ
asked_at out i = option_map_or (λ run. run.place ∷ []) (slice_get out i) []

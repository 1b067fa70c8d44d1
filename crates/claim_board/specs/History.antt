-- The history of a board, the last step first, and where it leads its places.
use Rattle.std.specs.Prelude.{◌≡◌, ◌≢◌, ℕ, ◌+◌, ◌*◌, ◌<◌, true, List, [], ◌∷◌, ◌++◌}
use Rattle.std.specs.Prelude.{length, map}
use Rattle.std.specs.List.{range_with_len}
use Rattle.machine_model.specs.Machine as machine
use Rattle.machine_model.specs.Machine.{Event}
use Rattle.machine_model.specs.Places as places
use Rattle.machine_model.specs.Places.{JobPlace, state_number}
use Rattle.link_slices.specs.Jobs.{answered_run, jobs_of_run}
use Rattle.claim_board.specs.RunPlaces.{Content, Offered, Claimed, Decoded, RunPlace, machine_place}
use Rattle.claim_board.specs.RunPlaces.{claims_run, completes_run, frees_place, may_put, place_at}
use Rattle.claim_board.specs.RunPlaces.{puts_run, state_of, unused_places}
use Rattle.claim_board.specs.declared.view.Entry.{Entry}
use Rattle.claim_board.specs.declared.view.Deed.{Deed}
use Rattle.claim_board.specs.declared.view.Deed.TheVariants.{WasRead, WasFetched, WasPut, WasClaimed}
use Rattle.claim_board.specs.declared.view.Deed.TheVariants.{WasCompleted, WasTaken, WasWithdrawn}

abbrev pub entry_of : ℕ → Deed → Entry
entry_of seat deed = record { seat = seat; deed = deed }

abbrev pub deed_place : Deed → ℕ
deed_place (WasRead place word) = place
deed_place (WasFetched place) = place
deed_place (WasPut place job) = place
deed_place (WasClaimed place serial job) = place
deed_place (WasCompleted place serial done) = place
deed_place (WasTaken place serial done) = place
deed_place (WasWithdrawn place serial job) = place

-- ---- a deed as the events of its name

-- an event of each slice of a run, at its place of the machine, from slice number k on
abbrev pub each_slice : (ℕ → Event) → ℕ → ℕ → List Event
each_slice event place count = map (λ k. event (machine_place place k)) (range_with_len 0 count)

-- of each slice the event that it is, upon these places of the machine; to read a word is none
abbrev pub events_of : List JobPlace → ℕ → Deed → List Event
events_of ps seat (WasRead place word) = []
events_of ps seat (WasFetched place) = []
events_of ps seat (WasPut place run) = map
    (λ k. machine.Put (machine_place place k) run.number (run.first + k))
    (range_with_len 0 (length run.slices.items))
events_of ps seat (WasClaimed place serial run) =
    each_slice (machine.Claim seat) place (length run.slices.items)
events_of ps seat (WasCompleted place serial done) =
    each_slice (λ p. machine.Complete p (places.place_at ps p).serial) place (length done.job.slices.items)
events_of ps seat (WasTaken place serial done) =
    each_slice machine.Take place (length done.job.slices.items)
events_of ps seat (WasWithdrawn place serial run) =
    each_slice machine.Withdraw place (length run.slices.items)

-- what it does to the board's places
abbrev pub after_deed : List RunPlace → ℕ → Deed → List RunPlace
after_deed places seat (WasRead place word) = places
after_deed places seat (WasFetched place) = places
after_deed places seat (WasPut place run) = puts_run places place (jobs_of_run run)
after_deed places seat (WasClaimed place serial job) = claims_run places seat place
after_deed places seat (WasCompleted place serial done) = completes_run places place serial
after_deed places seat (WasTaken place serial done) = frees_place places place
after_deed places seat (WasWithdrawn place serial job) = frees_place places place

-- ---- where a deed may stand

abbrev pub standing : ℕ → Content → RunPlace
standing serial content = record { serial = serial; content = content }

-- a word is four times the serial of its place, and the number of its state
abbrev pub waiting_word : ℕ → ℕ
waiting_word serial = 4 * serial + 1

-- the word that shows a place
abbrev pub word_of : RunPlace → ℕ
word_of p = 4 * p.serial + state_number (state_of p.content)

-- what it says of the place is so: the word that is there, the round, and the job or the answer
abbrev pub MayDo : List RunPlace → ℕ → Deed → Type 0
MayDo places seat (WasRead place word) = word ≡ word_of (place_at places place)
MayDo places seat (WasFetched place) = Unit {0}
MayDo places seat (WasPut place job) = may_put places place ≡ true
MayDo places seat (WasClaimed place serial job) =
    place_at places place ≡ standing serial (Offered (jobs_of_run job))
MayDo places seat (WasCompleted place serial done) =
    place_at places place ≡ standing serial (Claimed seat (jobs_of_run done.job))
MayDo places seat (WasTaken place serial done) =
    place_at places place ≡ standing serial (Decoded (answered_run done))
MayDo places seat (WasWithdrawn place serial job) =
    place_at places place ≡ standing serial (Offered (jobs_of_run job))

-- ---- histories

-- where it leads so many places that nothing was put into
abbrev pub places_after : ℕ → List Entry → List RunPlace
places_after places [] = unused_places places
places_after places (e ∷ es) = after_deed (places_after places es) e.seat e.deed

-- each of its steps may stand where it does
abbrev pub IsHistory : ℕ → List Entry → Type 0
IsHistory places [] = Unit {0}
IsHistory places (e ∷ es) = MayDo (places_after places es) e.seat e.deed × IsHistory places es

abbrev pub Each : (Entry → Type 0) → List Entry → Type 0
Each P [] = Unit {0}
Each P (e ∷ es) = P e × Each P es

-- a history that goes on from another one, by such steps
abbrev pub Continues : (Entry → Type 0) → List Entry → List Entry → Type 0
Continues P now known = (more : List Entry) × (now ≡ more ++ known) × Each P more

-- another seat's step
abbrev pub IsOther : ℕ → Entry → Type 0
IsOther seat e = e.seat ≢ seat

-- another seat's step, or the seat read the word of this place
abbrev pub IsOtherOrRead : ℕ → ℕ → Entry → Type 0
IsOtherOrRead seat place e = e.seat ≡ seat → (word : ℕ) × (e.deed ≡ WasRead place word)

-- a step of one of so many seats
abbrev pub IsBelow : ℕ → Entry → Type 0
IsBelow seats e = e.seat < seats

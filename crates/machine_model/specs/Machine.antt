-- The feeder and its workers as one machine over events (this project's own). What runs makes the
-- same events one after another, in an order that no program decides, so a law over every list of
-- events is a law over every interleaving.
use Rattle.std.specs.Prelude.{◌≡◌, ℕ, ◌+◌, Bool, true, false, ◌&&◌, not, ◌==◌, List, [], ◌∷◌}
use Rattle.std.specs.Prelude.{position, Option, None}
use Rattle.std.specs.Option.{option_map, option_map_or}
use Rattle.machine_model.specs.Feeders.{Feeder, new_feeder, is_closed_now, is_decoded, is_kept}
use Rattle.machine_model.specs.Feeders.{is_ready, slice_job, next_to_release, keeps_now}
use Rattle.machine_model.specs.Feeding.{hears_datagram, hears_end, redoes_slice, releases_picture}
use Rattle.machine_model.specs.Feeding.{takes_answer}
use Rattle.machine_model.specs.Places.{Content, Decoded, JobPlace, unused_places, place_at, is_in}
use Rattle.machine_model.specs.declared.place_state.PlaceState.TheVariants.{Waiting, Held, Done}
use Rattle.machine_model.specs.Places.{may_put, stands_in, puts_job, claims_job}
use Rattle.machine_model.specs.Places.{completes_job, frees_place}

-- the feeder part, and the place part
pub record Machine : Type 0 where
  pub feeder : Feeder
  pub places : List JobPlace

abbrev pub new_machine : ℕ → Machine
new_machine n = record { feeder = new_feeder; places = unused_places n }

pub data Event : Type 0 where
  Enter : (datagram : List ℕ) → Event
  Put : (place number index : ℕ) → Event
  Claim : (worker place : ℕ) → Event
  Complete : (place serial : ℕ) → Event
  Take : (place : ℕ) → Event
  Withdraw : (place : ℕ) → Event
  Leave : (place : ℕ) → Event
  Redo : (number index : ℕ) → Event
  Release : (number : ℕ) → Event
  Finish : Event

-- ---- where events are legal

-- it is the least picture that may be released
abbrev pub is_next : ℕ → Feeder → ℕ → Bool
is_next window f n = option_map_or (λ m. m == n) (next_to_release window f) false

-- where it is complete, all its slices are decoded
abbrev pub has_answers : ℕ → Feeder → ℕ → Bool
has_answers window f n = is_ready f.decoded n (keeps_now window f n)

-- what an event needs, in this order
abbrev pub conditions : ℕ → Machine → Event → List Bool
conditions window m (Enter datagram) = not m.feeder.has_ended ∷ []
conditions window m (Put place n i) =
    may_put m.places place
    ∷ is_kept window m.feeder n i
    ∷ not (is_closed_now window m.feeder n)
    ∷ not (stands_in m.places n i)
    ∷ not (is_decoded m.feeder n i)
    ∷ []
conditions window m (Claim worker place) = is_in Waiting (place_at m.places place) ∷ []
conditions window m (Complete place serial) = []
conditions window m (Take place) = is_in Done (place_at m.places place) ∷ []
conditions window m (Withdraw place) = is_in Waiting (place_at m.places place) ∷ []
conditions window m (Leave place) = is_in Held (place_at m.places place) ∷ []
conditions window m (Redo n i) =
    is_kept window m.feeder n i ∷ not (is_decoded m.feeder n i) ∷ []
conditions window m (Release n) = is_next window m.feeder n ∷ has_answers window m.feeder n ∷ []
conditions window m Finish = []

-- the number of the first condition that is broken, from 1
abbrev pub first_broken : ℕ → Machine → Event → Option ℕ
first_broken window m e = option_map (λ k. k + 1) (position not (conditions window m e))

abbrev pub IsLegal : ℕ → Machine → Event → Type 0
IsLegal window m e = first_broken window m e ≡ None

-- ---- what they do

-- what a take brings to the feeder
abbrev pub takes_from : ℕ → Feeder → Content → Feeder
takes_from window f (Decoded done) = takes_answer window f done
takes_from window f other = f

-- the job of the slice comes to the place
abbrev pub puts_slice : ℕ → Machine → ℕ → ℕ → ℕ → List JobPlace
puts_slice window m place n i =
    option_map_or (puts_job m.places place) (slice_job window m.feeder n i) m.places

-- an event that changes the feeder part alone, and any other event on that part
abbrev pub feeder_after : ℕ → Feeder → Event → Feeder
feeder_after window f (Enter datagram) = hears_datagram f datagram
feeder_after window f (Redo n i) = redoes_slice window f n i
feeder_after window f (Release n) = releases_picture window f n
feeder_after window f Finish = hears_end f
feeder_after window f other = f

abbrev pub happens : ℕ → Machine → Event → Machine
happens window m (Put place n i) = record m { places = puts_slice window m place n i }
happens window m (Claim worker place) = record m { places = claims_job m.places worker place }
happens window m (Complete place serial) = record m { places = completes_job m.places place serial }
happens window m (Take place) = record {
  feeder = takes_from window m.feeder (place_at m.places place).content;
  places = frees_place m.places place;
}
happens window m (Withdraw place) = record m { places = frees_place m.places place }
happens window m (Leave place) = record m { places = frees_place m.places place }
happens window m other = record m { feeder = feeder_after window m.feeder other }

-- ---- lists of events

abbrev pub run : ℕ → Machine → List Event → Machine
run window m [] = m
run window m (e ∷ es) = run window (happens window m e) es

-- each of them is legal where it stands
abbrev pub AreLegal : ℕ → Machine → List Event → Type 0
AreLegal window m [] = Unit {0}
AreLegal window m (e ∷ es) = IsLegal window m e × AreLegal window (happens window m e) es

-- ---- the halves of what events need

-- what is asked of the places
abbrev pub is_legal_on_places : List JobPlace → Event → Bool
is_legal_on_places places (Put place n i) = may_put places place && not (stands_in places n i)
is_legal_on_places places (Claim worker place) = is_in Waiting (place_at places place)
is_legal_on_places places (Take place) = is_in Done (place_at places place)
is_legal_on_places places (Withdraw place) = is_in Waiting (place_at places place)
is_legal_on_places places (Leave place) = is_in Held (place_at places place)
is_legal_on_places places other = true

-- and of the feeder
abbrev pub is_legal_for_feeder : ℕ → Feeder → Event → Bool
is_legal_for_feeder window f (Enter datagram) = not f.has_ended
is_legal_for_feeder window f (Put place n i) =
    is_kept window f n i && not (is_closed_now window f n) && not (is_decoded f n i)
is_legal_for_feeder window f (Redo n i) = is_kept window f n i && not (is_decoded f n i)
is_legal_for_feeder window f (Release n) = is_next window f n && has_answers window f n
is_legal_for_feeder window f other = true

-- The feeder's own way: a datagram or the end comes, it takes back what is decoded, and then it
-- releases what it may.
use Rattle.std.specs.Prelude.{◌≡◌, ℕ, ◌&&◌, not, true, List, [], ◌∷◌, ◌++◌, map, fold, filter}
use Rattle.std.specs.Prelude.{Option, Some, None}
use Rattle.std.specs.List.{flat_map}
use Rattle.link_model.specs.Complete.{has_all_slices, slice_numbers}
use Rattle.machine_model.specs.Feeders.{Feeder, is_decoded, keeps_now, releasable}
use Rattle.machine_model.specs.Feeding.{takes_answer}
use Rattle.link_model.specs.Kept.{Own}
use Rattle.machine_model.specs.Machine.{Event, Redo, Release, feeder_after, is_legal_for_feeder}
use Rattle.machine_model.specs.Places.{Answered}

-- the slices of a complete picture that have no answer, in rising order
abbrev pub unanswered : Feeder → ℕ → Option Own → List ℕ
unanswered f n None = []
unanswered f n (Some kept) = filter
    (λ i. has_all_slices kept && not (is_decoded f n i)) (slice_numbers kept)

-- it decodes what has no answer, and releases the picture
abbrev pub releasing : ℕ → Feeder → ℕ → List Event
releasing window f n = map (Redo n) (unanswered f n (keeps_now window f n)) ++ Release n ∷ []

-- and so each picture that may be released, in rising order; what is done for one leaves the others
-- as they are
abbrev pub all_releasing : ℕ → Feeder → List Event
all_releasing window f = flat_map (releasing window f) (releasable window f)

abbrev pub feeder_run : ℕ → Feeder → List Event → Feeder
feeder_run window f events = fold (feeder_after window) f events

abbrev pub taken_back : ℕ → Feeder → List Answered → Feeder
taken_back window f dones = fold (takes_answer window) f dones

-- a datagram or the end of the input, and these decoded jobs
abbrev pub after_taking : ℕ → Feeder → Event → List Answered → Feeder
after_taking window f e dones = taken_back window (feeder_after window f e) dones

unfoldable pub next_feeder : ℕ → Feeder → Event → List Answered → Feeder
next_feeder window f e dones =
    let taken = after_taking window f e dones in
    feeder_run window taken (all_releasing window taken)

-- each event is legal for the feeder where it stands
abbrev pub AreLegalForFeeder : ℕ → Feeder → List Event → Type 0
AreLegalForFeeder window f [] = Unit {0}
AreLegalForFeeder window f (e ∷ es) =
    (is_legal_for_feeder window f e ≡ true) × AreLegalForFeeder window (feeder_after window f e) es

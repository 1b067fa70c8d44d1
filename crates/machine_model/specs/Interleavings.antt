-- What is said of every list of events: what is due, the inputs among the events, and the answers
-- of a feeder.
use Rattle.std.specs.Prelude.{◌≡◌, ℕ, Bool, true, false, List, [], ◌∷◌, filter, if◌then◌else◌, Some}
use Rattle.machine_model.specs.Feeders.{SliceAnswer, Feeder, kept_job}
use Rattle.machine_model.specs.Machine.{Event, Enter, Finish, Machine, new_machine, run, AreLegal}
use Rattle.link_model.specs.Output.{full_output, output_so_far}
use Rattle.machine_model.specs.Places.{Job, decoding}
use Rattle.link_model.specs.Session.{HeardSession}

-- the machine after these events, from so many places that nothing was put into
abbrev pub machine_after : ℕ → ℕ → List Event → Machine
machine_after window places events = run window (new_machine places) events

-- each of the events is legal where it stands
abbrev pub IsRun : ℕ → ℕ → List Event → Type 0
IsRun window places events = AreLegal window (new_machine places) events

-- what is to be written of what was heard
abbrev pub due : ℕ → Feeder → List ℕ
due window f = if f.has_ended then full_output window f.heard else output_so_far window f.heard

abbrev pub is_input : Event → Bool
is_input (Enter datagram) = true
is_input Finish = true
is_input other = false

-- the datagrams and the end, in order
abbrev pub inputs : List Event → List Event
inputs events = filter is_input events

-- an answer is the decoding of the slice that its picture keeps
abbrev pub IsOwnAnswer : ℕ → List HeardSession → SliceAnswer → Type 0
IsOwnAnswer window hs a = (job : Job) × (kept_job window hs a.number a.index ≡ Some job)
    × (a.answer ≡ decoding job)

abbrev pub AreOwnAnswers : ℕ → List HeardSession → List SliceAnswer → Type 0
AreOwnAnswers window hs [] = Unit {0}
AreOwnAnswers window hs (a ∷ answers) = IsOwnAnswer window hs a × AreOwnAnswers window hs answers

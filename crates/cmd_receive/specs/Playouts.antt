-- A receiver with its output and its places, and what it does with the datagrams that it is given.
use Rattle.std.specs.Prelude.{◌≡◌, ◌≤◌, ℕ, List, [], ◌∷◌, ◌++◌, Option, Result, Ok, Err}
use Rattle.link_model.specs.Judgement.{outcome_behind, tally_of}
use Rattle.link_model.specs.Session.{sessions_of}
use Rattle.link_model.specs.declared.outcome.Outcome.{Outcome}
use Rattle.link_model.specs.declared.tally.Tally.{Tally}
use Rattle.link_receiver.specs.HeardLists.{OutputForm, HasHeard, AskedPlaces, told_jobs}
use Rattle.link_receiver.specs.HeardLists.{due_so_far, due_in_all}
use Rattle.link_receiver.specs.States.{ReceiverState}
use Rattle.link_receiver.specs.declared.fault.EnterFault.{EnterFault}
use Rattle.link_receiver.specs.declared.fault.EnterFault.TheVariants as enters
use Rattle.link_report.specs.declared.ending.Ending.{Ending}
use Rattle.link_report.specs.declared.ending.Ending.TheVariants.{NoMemory, OutputFailed}
use Rattle.link_slices.specs.Calls.{PlacesAreBelow}
use Rattle.receiver_model.specs.Offered.{AreAllOffered}
use Rattle.vc_ports.specs.Changes.{Change, InputChange}
use Rattle.vc_ports.specs.Faults.{Rose}
use Rattle.vc_ports.specs.Writing.{Grew, GrewBySome}
use Rattle.vc_slice.specs.Asked.{Told, Grows}
use Rattle.link_hearing.specs.Hearing.{fault_ending}
use Rattle.link_hearing.specs.Inputs.{HearsInput}
use Rattle.link_hearing.specs.declared.form.InputForm.{InputForm}
use Rattle.link_hearing.specs.declared.heard.HeardInput.{HeardInput}
use Rattle.link_hearing.specs.declared.listener.ListenerFault.{ListenerFault}
use Rattle.link_hearing.specs.declared.listener.ListenerFault.TheVariants as faults
use Rattle.cmd_receive.specs.declared.playout.Playout.{Playout}

-- the receiver, and what its output and its places tell
pub record PlayoutState : Type 0 where
  pub receiver : ReceiverState
  pub held : Option (List ℕ)
  pub faults : ℕ
  pub asked : Option Told
  pub bound : ℕ

abbrev pub playout_state : {H O P : Type 0} → (O → Option (List ℕ)) → (O → ℕ) → (P → Option Told)
    → (P → ℕ) → Playout H O P → PlayoutState
playout_state held faults told bound p = record {
  receiver = p.receiver.now;
  held = held p.output.now;
  faults = faults p.output.now;
  asked = told p.places.now;
  bound = bound p.places.now;
}

-- it borrows the same output and the same places
abbrev pub BorrowsAs : {H O P : Type 0} → Playout H O P → Playout H O P → Type 0
BorrowsAs old new = (new.output.ghost_name ≡ old.output.ghost_name)
    × (new.places.ghost_name ≡ old.places.ghost_name)

-- slices are out at places that there are
abbrev pub IsWell : PlayoutState → Type 0
IsWell x = PlacesAreBelow x.bound x.receiver.reception.out

-- ---- what was heard

-- nothing, and no slices are out
pub record IsNew (r : ReceiverState) : Type 0 where
  pub form : OutputForm
  pub window : ℕ
  pub heard : HasHeard form r window []
  pub out : r.reception.out ≡ []

-- what was told of places: no workers were started, and each slice that a picture of the datagrams
-- keeps was offered
pub record HandsWereOffered (window : ℕ) (datagrams : List (List ℕ)) (hands : Change (Option Told))
    : Type 0 where
  pub more : Told
  pub grows : Grows hands.before hands.after more
  pub started : more.started ≡ []
  pub offered : AreAllOffered window (sessions_of datagrams) (told_jobs more)

-- it has heard these datagrams, and wrote what they let go, since its output held so much and its
-- places told so much
pub record HasHeardSince
    (form : OutputForm) (window : ℕ) (held : Option (List ℕ)) (asked : Option Told)
    (x : PlayoutState) (heard : List (List ℕ)) : Type 0 where
  pub has_heard : HasHeard form x.receiver window heard
  pub wrote : Grew held x.held (due_so_far form window heard)
  pub offered : HandsWereOffered window heard (record { before = asked; after = x.asked })

-- and their end: all that is due was written, and these are the counts
pub record HasEndedSince
    (form : OutputForm) (window : ℕ) (held : Option (List ℕ)) (asked : Option Told)
    (x : PlayoutState) (heard : List (List ℕ)) (tally : Tally) : Type 0 where
  pub wrote : Grew held x.held (due_in_all form window heard)
  pub counted : tally ≡ tally_of window heard
  pub offered : HandsWereOffered window heard (record { before = asked; after = x.asked })

-- ---- what its calls do

-- no workers were started, and no fault was forgotten
pub record GoesOn (x y : PlayoutState) : Type 0 where
  pub asked : AskedPlaces x.asked y.asked
  pub well : IsWell x → IsWell y
  pub later : x.faults ≤ y.faults

-- it heard these datagrams, whatever it had heard before
pub record Hears (x y : PlayoutState) (heard : List (List ℕ)) : Type 0 where
  pub goes : GoesOn x y
  pub since : (form : OutputForm) (window : ℕ) (held : Option (List ℕ)) (asked : Option Told)
      (before : List (List ℕ)) → HasHeardSince form window held asked x before
      → HasHeardSince form window held asked y (before ++ heard)

-- it was given these datagrams, and a part of what is due of them was written
pub record Stumbles (x y : PlayoutState) (given : List (List ℕ)) : Type 0 where
  pub goes : GoesOn x y
  pub since : (form : OutputForm) (window : ℕ) (held : Option (List ℕ)) (asked : Option Told)
      (before : List (List ℕ)) → HasHeardSince form window held asked x before
      → GrewBySome held y.held (due_in_all form window (before ++ given))

-- by how it broke off: it can hear nothing more
abbrev pub BreaksOff : (x y : PlayoutState) → List (List ℕ) → Ending → Type 0
BreaksOff x y given NoMemory = Stumbles x y given
BreaksOff x y given OutputFailed = Stumbles x y given × Rose x.faults y.faults
BreaksOff x y given end = ⊥

-- it heard a datagram, and judged it
pub record Judges (x y : PlayoutState) (datagram : List ℕ) (outcome : Outcome) : Type 0 where
  pub hears : Hears x y (datagram ∷ [])
  pub judged : (form : OutputForm) (window : ℕ) (heard : List (List ℕ))
      → HasHeard form x.receiver window heard → outcome ≡ outcome_behind window heard datagram

abbrev pub TakesDatagram : (x y : PlayoutState) → List ℕ → Result Outcome ListenerFault → Type 0
TakesDatagram x y datagram (Ok outcome) = Judges x y datagram outcome
TakesDatagram x y datagram (Err fault) = BreaksOff x y (datagram ∷ []) (fault_ending fault)

-- it heard the end of the input
pub record Drains (x y : PlayoutState) (tally : Tally) : Type 0 where
  pub goes : GoesOn x y
  pub since : (form : OutputForm) (window : ℕ) (held : Option (List ℕ)) (asked : Option Told)
      (heard : List (List ℕ)) → HasHeardSince form window held asked x heard
      → HasEndedSince form window held asked y heard tally

abbrev pub TakesEnd : (x y : PlayoutState) → Result Tally ListenerFault → Type 0
TakesEnd x y (Ok tally) = Drains x y tally
TakesEnd x y (Err fault) = BreaksOff x y [] (fault_ending fault)

-- ---- an input

-- its datagrams were heard
abbrev pub PlaysInput : InputForm → ℕ → InputChange → (x y : PlayoutState) → HeardInput → Type 0
PlaysInput form packets input x y told = HearsInput form packets input (Hears x y)
    (λ datagrams fault. BreaksOff x y datagrams (fault_ending fault)) ⊥ told

-- ---- how it fails

abbrev pub fault_of : EnterFault → ListenerFault
fault_of enters.NoMemory = faults.NoMemory
fault_of enters.WriteFault = faults.Output
fault_of enters.Ended = faults.NoMemory

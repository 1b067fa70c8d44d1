-- Datagrams that are sent to a wire one after another, and counted.
use Rattle.std.specs.Prelude.{◌≡◌, ◌≤◌, ◌<◌, ◌+◌, ◌*◌, ◌^◌, ℕ, List, ◌∷◌, [], ◌++◌, length, sum_by, IsTrue}
use Rattle.std.specs.Prelude.{Option, Some, None, Result, Ok, Err}
use Rattle.link_hearing.specs.Inputs.{HearsInput}
use Rattle.link_hearing.specs.declared.form.InputForm.TheVariants.{Capture}
use Rattle.link_hearing.specs.declared.heard.HeardInput.{HeardInput}
use Rattle.link_hearing.specs.declared.listener.ListenerFault.{ListenerFault}
use Rattle.link_hearing.specs.declared.listener.ListenerFault.TheVariants as faults
use Rattle.link_outside.specs.Outlets.{SentAll, SentPart}
use Rattle.link_outside.specs.declared.outlet.OutletFault.TheVariants as outlets
use Rattle.link_report.specs.declared.answer.Answer.{Answer}
use Rattle.link_report.specs.declared.answer.Answer.TheVariants.{Done, Stopped, Drained}
use Rattle.link_report.specs.declared.ending.Ending.{Ending}
use Rattle.link_report.specs.declared.ending.Ending.TheVariants.{NoMemory, OutputFailed}
use Rattle.link_report.specs.declared.ending.Ending.TheVariants.{StreamBad, WireFailed}
use Rattle.link_report.specs.declared.summary.Summary.{Summary}
use Rattle.link_report.specs.declared.summary.Summary.TheVariants.{Replayed}
use Rattle.vc_ports.specs.Changes.{InputChange, WireChange}
use Rattle.vc_ports.specs.Wires.{WireTold}
use Rattle.cmd_record.specs.declared.replayer.Replayer.{Replayer}

-- what the wire tells, and its faults; how many datagrams were sent, and how many bytes they have;
-- and where an entry begins that is too long
pub record ReplayState : Type 0 where
  pub told : WireTold
  pub faults : ℕ
  pub datagrams : ℕ
  pub bytes : ℕ
  pub long_at : Option ℕ

abbrev pub replay_state : {N P : Type 0} → (N → WireTold) → (N → ℕ) → Replayer N P → ReplayState
replay_state told faults r = record {
  told = told r.wire.now;
  faults = faults r.wire.now;
  datagrams = r.datagrams;
  bytes = r.bytes;
  long_at = r.long_at;
}

-- what was done to the wire
abbrev pub wire_between : ReplayState → ReplayState → WireChange
wire_between x y = record {
  told = record { before = x.told; after = y.told };
  faults = record { before = x.faults; after = y.faults };
}

-- the wire is aimed, and what it was sent has been short enough
pub record CanSendAgain (x : ReplayState) : Type 0 where
  pub aimed : IsTrue x.told.aimed
  pub room : x.bytes ≤ 65507 * x.datagrams
  pub short : x.long_at ≡ None

-- ---- what its calls do

-- these were sent
pub record SendsAgain (x y : ReplayState) (datagrams : List (List ℕ)) : Type 0 where
  pub sent : SentAll (wire_between x y) datagrams
  pub datagrams_are : y.datagrams ≡ x.datagrams + length datagrams
  pub bytes_are : y.bytes ≡ x.bytes + sum_by length datagrams

-- all of these were sent, but perhaps the last
pub record SendsMostAgain (x y : ReplayState) (datagrams : List (List ℕ)) : Type 0 where
  pub most : List (List ℕ)
  pub lost : List (List ℕ)
  pub are : datagrams ≡ most ++ lost
  pub few : length lost ≤ 1
  pub sends : SendsAgain x y most

-- the last of these is too long, and its entry begins behind those of the others, which were sent
pub record SendsAgainUpTo (place : ℕ) (x y : ReplayState) (datagrams : List (List ℕ)) : Type 0 where
  pub others : List (List ℕ)
  pub last : List ℕ
  pub are : datagrams ≡ others ++ last ∷ []
  pub too_long : 65507 < length last
  pub sends : SendsAgain x y others
  pub place_is : place ≡ y.bytes + 2 * y.datagrams

-- the wire failed, or one was too long
abbrev pub DoesNotSendAgain : Option ℕ → (x y : ReplayState) → List (List ℕ) → Type 0
DoesNotSendAgain None x y datagrams = SentPart (wire_between x y) datagrams outlets.Wire
DoesNotSendAgain (Some place) x y datagrams = SendsAgainUpTo place x y datagrams

-- by how it broke off: it can hear nothing more
abbrev pub BreaksOff : (x y : ReplayState) → List (List ℕ) → ListenerFault → Type 0
BreaksOff x y datagrams faults.NoMemory = SendsMostAgain x y datagrams
BreaksOff x y datagrams faults.Output = DoesNotSendAgain y.long_at x y datagrams

-- ---- what the command makes of it

abbrev pub counts_of : ReplayState → Summary
counts_of y = Replayed y.datagrams y.bytes

-- the answer where a datagram didn't go out
abbrev pub unsent_answer : Option ℕ → Summary → Answer
unsent_answer None summary = Stopped WireFailed
unsent_answer (Some place) summary = Drained summary (StreamBad place)

abbrev pub replay_answer : ReplayState → Result (Unit {0}) Ending → Answer
replay_answer y (Ok done) = Done (counts_of y)
replay_answer y (Err NoMemory) = Stopped NoMemory
replay_answer y (Err OutputFailed) = unsent_answer y.long_at (counts_of y)
replay_answer y (Err end) = Drained (counts_of y) end

-- the datagrams of a capture's entries were heard, at most so many, and the answer is made of that
pub record PlaysCapture
    (packets : ℕ) (input : InputChange) (x y : ReplayState) (answer : Answer) : Type 0 where
  pub told : HeardInput
  pub heard : HearsInput Capture packets input (SendsAgain x y) (BreaksOff x y)
      (2 ^ 32 ≤ y.datagrams) told
  pub answer_is : answer ≡ replay_answer y told.ended

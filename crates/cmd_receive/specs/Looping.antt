-- What looping raw frames over a wire did, by how it ended.
use Rattle.std.specs.Prelude.{◌≡◌, ◌⊎◌, ◌≤◌, ℕ, List, [], length, take, Option, Result, Ok, Err}
use Rattle.link_outside.specs.declared.outlet.OutletFault.{OutletFault}
use Rattle.cmd_receive.specs.Decoding.{HasGivenWork}
use Rattle.link_receiver.specs.StartedWorkers.{HasStarted}
use Rattle.cmd_send.specs.Sends.{SendsFrames}
use Rattle.link_model.specs.Output.{full_output}
use Rattle.link_report.specs.declared.ending.Ending.{Ending}
use Rattle.link_report.specs.declared.ending.Ending.TheVariants.{InputFailed, NoMemory}
use Rattle.link_report.specs.declared.ending.Ending.TheVariants.{OutputFailed, WireFailed}
use Rattle.link_report.specs.declared.summary.Summary.{Summary}
use Rattle.link_report.specs.declared.summary.Summary.TheVariants.{Looped, Sent}
use Rattle.link_receiver.specs.HeardLists.{AsFrames, HasHeard}
use Rattle.cmd_receive.specs.Exchanges.{AreInTurn, LoopState}
use Rattle.cmd_receive.specs.Receiving.{IsJudged}
use Rattle.vc_ports.specs.Changes.{Change, InputChange, OutputChange, WireChange}
use Rattle.vc_ports.specs.Changes.{HasRisen, Stays, Wrote, WrotePart}
use Rattle.vc_ports.specs.Wires.{WireTold, aiming, listening}
use Rattle.vc_slice.specs.Asked.{Told, Grows, starting}
use Rattle.vc_types.specs.SenderSettings.{Sending}
use Rattle.link_outside.specs.Passing.{Passes}

-- ---- the wire

-- it listens at an address, and is aimed at the same
abbrev pub looping_at : WireTold → List ℕ → WireTold
looping_at told at = aiming (listening told at) at

-- and then these datagrams were sent and those were given, as many as were sent, or no more will
-- come; nothing else was done to it
pub record SentInTurn (at : List ℕ) (wire : WireChange) (given sent : List (List ℕ)) : Type 0 where
  pub passes : Passes (looping_at wire.told.before at) wire.told.after sent given
  pub in_turn : AreInTurn wire.told.after sent given

-- or something failed, and the first of them were sent
pub record SentSome
    (at : List ℕ) (wire : WireChange) (given sent : List (List ℕ)) (fault : OutletFault) : Type 0
  where
    pub count : ℕ
    pub within : count ≤ length sent
    pub passes : Passes (looping_at wire.told.before at) wire.told.after (take count sent) given

-- ---- the output

-- by how sending ended, and by the answer: all frames of what was heard were written; or a part of
-- them, where the output failed or memory ran out
abbrev pub LoopWrote : ℕ → (sending answer : Result Summary Ending) → OutputChange → List (List ℕ)
    → Type 0
LoopWrote window sending (Ok (Looped frames datagrams bytes tally)) output heard =
    (sending ≡ Ok (Sent frames datagrams bytes)) × IsJudged AsFrames window tally output heard
LoopWrote window sending (Err OutputFailed) output heard =
    WrotePart output (full_output window heard)
LoopWrote window sending (Err NoMemory) output heard = WrotePart output (full_output window heard)
LoopWrote window sending (Err ending) output heard =
    (sending ≡ Err ending) × Wrote output (full_output window heard)
LoopWrote window sending (Ok summary) output heard = ⊥

-- ---- the whole

-- frames were sent, and the datagrams that came were heard
pub record HasLooped
    (s : Sending) (most window : ℕ) (at : List ℕ) (answer : Result Summary Ending)
    (input : InputChange) (output : OutputChange) (wire : WireChange) (heard : List (List ℕ))
    : Type 0 where
  pub sending : Result Summary Ending
  pub sends : SendsFrames s most sending input (SentInTurn at wire heard) (SentSome at wire heard)
  pub wrote : LoopWrote window sending answer output heard

-- how far the wire was made ready, where memory or a call of it failed
abbrev pub IsUnready : List ℕ → Result Summary Ending → WireChange → Type 0
IsUnready at (Err NoMemory) wire = Stays wire.told
IsUnready at (Err WireFailed) wire =
    Stays wire.told ⊎ (wire.told.after ≡ listening wire.told.before at)
IsUnready at answer wire = ⊥

-- nothing was read, sent or heard
pub record CouldNotBegin
    (at : List ℕ) (answer : Result Summary Ending)
    (input : InputChange) (output : OutputChange) (wire : WireChange) (heard : List (List ℕ))
    : Type 0 where
  pub unready : IsUnready at answer wire
  pub unread : Stays input.left
  pub unwritten : Stays output.held
  pub nothing : heard ≡ []

-- workers were started, once, and each slice that a picture of the datagrams keeps was offered
abbrev pub GivesWork : (window workers : ℕ) → Result Summary Ending → Change (Option Told)
    → List (List ℕ) → Type 0
GivesWork window workers (Err OutputFailed) hands heard = HasStarted workers hands
GivesWork window workers (Err NoMemory) hands heard = HasStarted workers hands ⊎ Stays hands
GivesWork window workers answer hands heard = HasGivenWork window workers hands heard

-- looping at most so many raw frames of the bytes that the input gave over a wire, at one address
pub record LoopsBack
    (s : Sending) (most window workers : ℕ) (at : List ℕ) (answer : Result Summary Ending)
    (input : InputChange) (output : OutputChange) (wire : WireChange) (hands : Change (Option Told))
    : Type 0 where
  pub heard : List (List ℕ)
  pub did : HasLooped s most window at answer input output wire heard
      ⊎ CouldNotBegin at answer input output wire heard
  pub input_failed : answer ≡ Err InputFailed → HasRisen input.faults
  pub output_failed : answer ≡ Err OutputFailed → HasRisen output.faults
  pub wire_failed : answer ≡ Err WireFailed → HasRisen wire.faults
  pub workers_started : GivesWork window workers answer hands heard

-- ---- from where the wire is ready

-- workers were started, the wire was made ready, and nothing was heard yet
pub record HasBegun
    (window workers : ℕ) (at : List ℕ) (told : WireTold) (faults : ℕ) (asked : Option Told)
    (x : LoopState) : Type 0 where
  pub ready : x.told ≡ looping_at told at
  pub later : faults ≤ x.wire_faults
  pub started : Grows asked x.playout.asked (starting workers (Ok tt))
  pub new : HasHeard AsFrames x.playout.receiver window []

-- what the whole did, whatever was before it began
abbrev pub LoopsBetween : Sending → ℕ → Result Summary Ending → InputChange → (x y : LoopState)
    → Type 0
LoopsBetween s most answer input x y =
    (window workers : ℕ) (at : List ℕ) (told : WireTold) (faults : ℕ) (asked : Option Told)
    → HasBegun window workers at told faults asked x
    → LoopsBack s most window workers at answer input
    (record {
      held = record { before = x.playout.held; after = y.playout.held };
      faults = record { before = x.playout.faults; after = y.playout.faults };
    })
    (record {
      told = record { before = told; after = y.told };
      faults = record { before = faults; after = y.wire_faults };
    })
    (record { before = asked; after = y.playout.asked })

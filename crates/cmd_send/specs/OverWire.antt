-- What sending raw frames over a wire did, by how it ended.
use Rattle.std.specs.Prelude.{◌≡◌, ◌⊎◌, ℕ, List, Result, Err}
use Rattle.link_outside.specs.Outlets.{SentAll, SentPart}
use Rattle.cmd_send.specs.Sends.{SendsFrames}
use Rattle.link_report.specs.declared.ending.Ending.{Ending}
use Rattle.link_report.specs.declared.ending.Ending.TheVariants.{WireFailed}
use Rattle.link_report.specs.declared.summary.Summary.{Summary}
use Rattle.vc_ports.specs.Changes.{InputChange, WireChange, HasRisen, Stays}
use Rattle.vc_ports.specs.Wires.{aiming}
use Rattle.vc_types.specs.SenderSettings.{Sending}

-- what was done to a wire behind its aiming at an address
abbrev pub behind_aim : List ℕ → WireChange → WireChange
behind_aim to wire = record {
  told = record { before = aiming wire.told.before to; after = wire.told.after };
  faults = wire.faults;
}

-- the wire was aimed at the address, and then the datagrams of frames were sent to it; nothing else
-- was done to it
abbrev pub SentBehindAim : Sending → ℕ → List ℕ → Result Summary Ending → InputChange
    → WireChange → Type 0
SentBehindAim s most to answer input wire = SendsFrames s most answer input
    (SentAll (behind_aim to wire)) (SentPart (behind_aim to wire))

-- it couldn't be aimed; nothing was read, and nothing is otherwise with the wire
pub record CouldNotAim (answer : Result Summary Ending) (input : InputChange) (wire : WireChange)
    : Type 0 where
  pub answer_is : answer ≡ Err WireFailed
  pub unread : Stays input.left
  pub sound : Stays input.faults
  pub untouched : Stays wire.told

-- sending at most so many raw frames of the bytes that the input gave to an address
pub record SendsOver
    (s : Sending) (most : ℕ) (to : List ℕ) (answer : Result Summary Ending)
    (input : InputChange) (wire : WireChange)
    : Type 0 where
  pub did : SentBehindAim s most to answer input wire ⊎ CouldNotAim answer input wire
  pub wire_failed : answer ≡ Err WireFailed → HasRisen wire.faults

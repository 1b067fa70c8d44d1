-- What encoding raw frames to a capture did.
use Rattle.std.specs.Prelude.{◌≡◌, ℕ, List, Result, Err}
use Rattle.link_outside.specs.Outlets.{WroteEntries, WrotePartOfEntries}
use Rattle.cmd_send.specs.Sends.{IsSendable, SendsFrames}
use Rattle.link_report.specs.declared.ending.Ending.{Ending}
use Rattle.link_report.specs.declared.ending.Ending.TheVariants.{OutputFailed}
use Rattle.link_report.specs.declared.summary.Summary.{Summary}
use Rattle.vc_ports.specs.Changes.{InputChange, OutputChange, HasRisen}
use Rattle.vc_types.specs.SenderSettings.{Sending}

-- encoding at most so many raw frames of the bytes that the input gave: they were sent, and the
-- entries of their datagrams were written
pub record Encodes
    (s : Sending) (most : ℕ) (answer : Result Summary Ending)
    (input : InputChange) (output : OutputChange)
    : Type 0 where
  pub sends : SendsFrames s most answer input (WroteEntries output) (WrotePartOfEntries output)
  pub output_failed : answer ≡ Err OutputFailed → HasRisen output.faults

-- the bytes can be encoded to their end
abbrev pub IsEncodable : Sending → ℕ → List ℕ → Type 0
IsEncodable s most bytes = IsSendable s most bytes

-- What receiving from a wire did, by how it ended.
use Rattle.std.specs.Prelude.{◌≡◌, ◌≤◌, ℕ, Bool, List, length, Option}
use Rattle.cmd_receive.specs.Decoding.{StartsWorkers}
use Rattle.link_model.specs.Judgement.{tally_of}
use Rattle.link_model.specs.declared.tally.Tally.{Tally}
use Rattle.link_receiver.specs.HeardLists.{OutputForm, frames_form, due_in_all}
use Rattle.link_report.specs.declared.answer.Answer.{Answer}
use Rattle.link_report.specs.declared.answer.Answer.TheVariants.{Done, Stopped, Drained}
use Rattle.link_report.specs.declared.ending.Ending.TheVariants.{NoMemory, OutputFailed}
use Rattle.link_report.specs.declared.ending.Ending.TheVariants.{PacketLimit, WireFailed}
use Rattle.link_report.specs.declared.summary.Summary.TheVariants.{Judged}
use Rattle.link_hearing.specs.FromWire.{HeardAt, HeardAtMost, HeardToEnd, IsPastPackets, Listening}
use Rattle.link_hearing.specs.FromWire.{has_failed_wire}
use Rattle.vc_ports.specs.Changes.{Change, OutputChange, WireChange, HasRisen, Wrote, WrotePart}
use Rattle.vc_slice.specs.Asked.{Told}

-- ---- by the answer

-- all frames of what was heard were written, and these are the counts
pub record IsJudged (form : OutputForm) (window : ℕ) (tally : Tally) (output : OutputChange)
    (heard : List (List ℕ)) : Type 0 where
  pub wrote : Wrote output (due_in_all form window heard)
  pub tally_is : tally ≡ tally_of window heard

abbrev pub RecvEnded : OutputForm → (window packets sessions : ℕ) → Listening → Answer → WireChange
    → OutputChange → List (List ℕ) → Type 0
RecvEnded form window packets sessions at (Done (Judged tally)) wire output heard =
    HeardAt at wire heard × HeardToEnd packets sessions wire heard
    × IsJudged form window tally output heard
RecvEnded form window packets sessions at (Drained (Judged tally) (PacketLimit limit)) wire output heard =
    HeardAt at wire heard × IsPastPackets packets sessions limit heard
    × IsJudged form window tally output heard
RecvEnded form window packets sessions at (Drained (Judged tally) WireFailed) wire output heard =
    HeardAtMost at wire heard × IsJudged form window tally output heard
RecvEnded form window packets sessions at (Stopped OutputFailed) wire output heard =
    HeardAt at wire heard × WrotePart output (due_in_all form window heard)
RecvEnded form window packets sessions at (Stopped NoMemory) wire output heard =
    HeardAtMost at wire heard × WrotePart output (due_in_all form window heard)
RecvEnded form window packets sessions at answer wire output heard = ⊥

-- receiving at most so many datagrams at an address, until so many sessions have ended; gaps between
-- frames are filled, or not
pub record ReceivesFrom
    (fill : Bool) (window workers packets sessions : ℕ) (at : Listening) (answer : Answer)
    (wire : WireChange) (output : OutputChange) (hands : Change (Option Told)) : Type 0 where
  pub heard : List (List ℕ)
  pub few : length heard ≤ packets
  pub ended : RecvEnded (frames_form fill) window packets sessions at answer wire output heard
  pub wire_failed : has_failed_wire answer → HasRisen wire.faults
  pub output_failed : answer ≡ Stopped OutputFailed → HasRisen output.faults
  pub workers_started : StartsWorkers window workers answer hands heard

-- What recording the datagrams of a wire did, by how it ended.
use Rattle.std.specs.Prelude.{◌≡◌, ◌≤◌, ℕ, List, [], length}
use Rattle.link_hearing.specs.FromWire.{HeardAt, HeardAtMost, HeardToEnd, IsPastPackets, Listening}
use Rattle.link_hearing.specs.FromWire.{has_failed_wire}
use Rattle.link_hearing.specs.Sessions.{ended_sessions}
use Rattle.link_outside.specs.Outlets.{capture_of}
use Rattle.link_report.specs.declared.answer.Answer.{Answer}
use Rattle.link_report.specs.declared.answer.Answer.TheVariants.{Done, Stopped, Drained}
use Rattle.link_report.specs.declared.ending.Ending.TheVariants.{NoMemory, OutputFailed}
use Rattle.link_report.specs.declared.ending.Ending.TheVariants.{PacketLimit, WireFailed}
use Rattle.link_report.specs.declared.summary.Summary.{Summary}
use Rattle.link_report.specs.declared.summary.Summary.TheVariants.{Recorded}
use Rattle.vc_ports.specs.Changes.{OutputChange, WireChange, HasRisen, Stays, Wrote, WrotePart}
use Rattle.cmd_record.specs.Recorders.{WereKept}

-- the entries of these datagrams were written, the wire was told of each that it was kept, and these
-- are the counts
pub record IsRecorded
    (summary : Summary) (wire : WireChange) (output : OutputChange) (heard : List (List ℕ)) : Type 0
  where
    pub wrote : Wrote output (capture_of heard)
    pub kept : WereKept wire heard
    pub summary_is : summary ≡ Recorded (length heard) (ended_sessions heard)

abbrev pub RecordEnded : (packets sessions : ℕ) → Listening → Answer → WireChange → OutputChange
    → List (List ℕ) → Type 0
RecordEnded packets sessions at (Done summary) wire output heard =
    HeardAt at wire heard × HeardToEnd packets sessions wire heard
    × IsRecorded summary wire output heard
RecordEnded packets sessions at (Drained summary (PacketLimit limit)) wire output heard =
    HeardAt at wire heard × IsPastPackets packets sessions limit heard
    × IsRecorded summary wire output heard
RecordEnded packets sessions at (Drained summary WireFailed) wire output heard =
    HeardAtMost at wire heard × IsRecorded summary wire output heard
RecordEnded packets sessions at (Stopped OutputFailed) wire output heard =
    HeardAt at wire heard × WrotePart output (capture_of heard)
RecordEnded packets sessions at (Stopped NoMemory) wire output heard =
    (heard ≡ []) × Stays wire.told × Stays output.held
RecordEnded packets sessions at answer wire output heard = ⊥

-- recording at most so many datagrams that come to an address, until so many sessions have ended
pub record Records
    (packets sessions : ℕ) (at : Listening) (answer : Answer)
    (wire : WireChange) (output : OutputChange) : Type 0 where
  pub heard : List (List ℕ)
  pub few : length heard ≤ packets
  pub ended : RecordEnded packets sessions at answer wire output heard
  pub wire_failed : has_failed_wire answer → HasRisen wire.faults
  pub output_failed : answer ≡ Stopped OutputFailed → HasRisen output.faults

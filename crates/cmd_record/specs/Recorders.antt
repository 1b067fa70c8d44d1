-- What was recorded of the datagrams that a wire gave one after another.
use Rattle.std.specs.Prelude.{◌≡◌, ◌≤◌, ◌-◌, ℕ, true, false, List, [], length, Result, Ok, Err}
use Rattle.link_hearing.specs.FromWire.{HeardToEnd, IsPastPackets}
use Rattle.link_hearing.specs.Hearing.{has_broken}
use Rattle.link_outside.specs.Outlets.{capture_of}
use Rattle.link_outside.specs.Passing.{Passes, RoseBy}
use Rattle.link_report.specs.declared.answer.Answer.{Answer}
use Rattle.link_report.specs.declared.answer.Answer.TheVariants.{Done, Stopped, Drained}
use Rattle.link_report.specs.declared.ending.Ending.{Ending}
use Rattle.link_report.specs.declared.ending.Ending.TheVariants.{OutputFailed, PacketLimit, WireFailed}
use Rattle.link_report.specs.declared.summary.Summary.{Summary}
use Rattle.link_report.specs.declared.summary.Summary.TheVariants.{Recorded}
use Rattle.vc_ports.specs.Changes.{OutputChange, WireChange, HasRisen, Wrote, WrotePart}
use Rattle.cmd_record.specs.Watching.{Watches}
use Rattle.cmd_record.specs.declared.recorder.Recorder.{Recorder}

-- these datagrams were counted, and the sessions of them that have had their end
pub record HasCounted (r : Recorder) (sessions : ℕ) (heard : List (List ℕ)) : Type 0 where
  pub sessions_are : r.sessions ≡ sessions
  pub datagrams_are : r.datagrams ≡ length heard
  pub watches : Watches r.watch sessions heard

abbrev pub counts_of : Recorder → Summary
counts_of r = Recorded r.datagrams (r.sessions - r.watch.left)

-- ---- recording datagrams

-- the wire was told of each of these that it was kept
abbrev pub WereKept : WireChange → List (List ℕ) → Type 0
WereKept wire heard =
    RoseBy (length heard) wire.told.before.counts.kept wire.told.after.counts.kept

-- all of these were written
pub record HasRecorded
    (r : Recorder) (sessions : ℕ) (wire : WireChange) (output : OutputChange) (heard : List (List ℕ))
    : Type 0 where
  pub wrote : Wrote output (capture_of heard)
  pub kept : WereKept wire heard
  pub counted : HasCounted r sessions heard

abbrev pub RecordedUntil : (packets sessions : ℕ) → Recorder → Result (Unit {0}) Ending → WireChange
    → OutputChange → List (List ℕ) → Type 0
RecordedUntil packets sessions r (Ok done) wire output heard =
    HeardToEnd packets sessions wire heard × HasRecorded r sessions wire output heard
RecordedUntil packets sessions r (Err (PacketLimit limit)) wire output heard =
    IsPastPackets packets sessions limit heard × HasRecorded r sessions wire output heard
RecordedUntil packets sessions r (Err WireFailed) wire output heard =
    HasRisen wire.faults × HasRecorded r sessions wire output heard
RecordedUntil packets sessions r (Err OutputFailed) wire output heard =
    HasRisen output.faults × WrotePart output (capture_of heard)
RecordedUntil packets sessions r (Err end) wire output heard = ⊥

-- the wire gave these datagrams, at most so many, and nothing else was done to it
pub record RecordsEach
    (packets sessions : ℕ) (r : Recorder) (result : Result (Unit {0}) Ending)
    (wire : WireChange) (output : OutputChange) : Type 0 where
  pub heard : List (List ℕ)
  pub few : length heard ≤ packets
  pub gave : Passes wire.told.before wire.told.after [] heard
  pub ended : RecordedUntil packets sessions r result wire output heard

-- ---- what the command makes of it

abbrev pub StopsRecording : Recorder → Result (Unit {0}) Ending → Answer → Type 0
StopsRecording r recorded (Done summary) = (recorded ≡ Ok tt) × (summary ≡ counts_of r)
StopsRecording r recorded (Drained summary end) =
    (recorded ≡ Err end) × (has_broken end ≡ false) × (summary ≡ counts_of r)
StopsRecording r recorded (Stopped end) = (recorded ≡ Err end) × (has_broken end ≡ true)
StopsRecording r recorded answer = ⊥

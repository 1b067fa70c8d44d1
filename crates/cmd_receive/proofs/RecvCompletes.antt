-- Where no fault came, and what comes ends the session that was asked for within so many datagrams or
-- has fewer, receiving comes to its end, unless memory runs out.
use Rattle.std.proofs.Common.{ℕ, Bool, List, Option, IsSomeAnd, refl}
use Rattle.cmd_receive.proofs.DecodeCompletes.{IsComplete}
use Rattle.link_report.specs.declared.answer.Answer.{Answer}
use Rattle.link_report.specs.declared.answer.Answer.TheVariants.{Done, Stopped, Drained, WithRecords}
use Rattle.link_report.specs.declared.ending.Ending.TheVariants.{NoMemory, OutputFailed, PacketLimit, WireFailed}
use Rattle.link_report.specs.declared.summary.Summary.TheVariants.{Judged}
use Rattle.cmd_receive.specs.Receiving.{ReceivesFrom}
use Rattle.link_hearing.proofs.SessionEnds.{past_by}
use Rattle.link_hearing.specs.FromWire.{IsReceivable, Listening}
use Rattle.vc_ports.specs.Changes.{Change, OutputChange, WireChange, HasRisen}
use Rattle.vc_slice.specs.Asked.{Told}

module _ (fill : Bool) (window workers packets sessions : ℕ) (at : Listening) (wire : WireChange) (output : OutputChange) (hands : Change (Option Told))
    (sound_wire : HasRisen wire.faults → ⊥) (sound_output : HasRisen output.faults → ⊥)
    (whole : IsSomeAnd wire.told.before.coming (IsReceivable packets sessions)) where
  pub recv_completes : (answer : Answer) → ReceivesFrom fill window workers packets sessions at answer wire output hands → IsComplete answer
  recv_completes (Done summary) r = tt
  recv_completes (Stopped NoMemory) r = tt
  recv_completes (Stopped OutputFailed) r = sound_output (r.output_failed refl)
  recv_completes (Stopped end) r = r.ended
  recv_completes (Drained summary WireFailed) r = sound_wire (r.wire_failed (summary, refl))
  recv_completes (Drained (Judged tally) (PacketLimit limit)) r = past_by packets sessions at wire whole r.heard limit r.ended.0 r.ended.1
  recv_completes (Drained (Judged tally) end) r = r.ended
  recv_completes (Drained summary end) r = r.ended
  recv_completes (WithRecords summary records other end) r = absurd r.ended

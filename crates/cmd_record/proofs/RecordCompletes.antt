-- Where no fault came, and what comes ends the session that was asked for within so many datagrams or has fewer,
-- recording comes to its end, unless memory runs out.
use Rattle.std.proofs.Common.{◌≡◌, ℕ, List, IsSomeAnd, refl, inl, inr}
use Rattle.std.specs.Prelude.{◌⊎◌}
use Rattle.link_hearing.proofs.SessionEnds.{past_by}
use Rattle.link_hearing.specs.FromWire.{IsReceivable, Listening}
use Rattle.link_report.specs.Answers.{answer_status}
use Rattle.link_report.specs.declared.answer.Answer.{Answer}
use Rattle.link_report.specs.declared.answer.Answer.TheVariants.{Done, Stopped, Drained, WithRecords}
use Rattle.link_report.specs.declared.ending.Ending.TheVariants.{NoMemory, OutputFailed, PacketLimit, WireFailed}
use Rattle.vc_ports.specs.Changes.{OutputChange, WireChange, HasRisen}
use Rattle.cmd_record.specs.Recording.{Records}

module _ (packets sessions : ℕ) (at : Listening) (wire : WireChange) (output : OutputChange) (sound_wire : HasRisen wire.faults → ⊥)
    (sound_output : HasRisen output.faults → ⊥) (whole : IsSomeAnd wire.told.before.coming (IsReceivable packets sessions)) where
  pub record_completes : (answer : Answer) → Records packets sessions at answer wire output
      → (answer_status answer ≡ 0) ⊎ (answer_status answer ≡ 3)
  record_completes (Done summary) r = inl refl
  record_completes (Stopped NoMemory) r = inr refl
  record_completes (Stopped OutputFailed) r = absurd (sound_output (r.output_failed refl))
  record_completes (Stopped end) r = absurd r.ended
  record_completes (Drained summary WireFailed) r = absurd (sound_wire (r.wire_failed (summary, refl)))
  record_completes (Drained summary (PacketLimit limit)) r =
      absurd (past_by packets sessions at wire whole r.heard limit r.ended.0 r.ended.1)
  record_completes (Drained summary end) r = absurd r.ended
  record_completes (WithRecords summary records other end) r = absurd r.ended

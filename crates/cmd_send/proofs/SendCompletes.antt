-- Where no fault came, whole frames that aren't refused, at most as many as were asked for, are sent to
-- their end, unless memory runs out.
use Rattle.std.proofs.Common.{◌≡◌, ◌⊎◌, ℕ, List, IsSomeAnd, Result, Err, inl, inr}
use Rattle.std.specs.Result.{IsOk}
use Rattle.link_outside.specs.Outlets.{SentAll, SentPart}
use Rattle.cmd_send.proofs.FramesComplete.{sending_completes}
use Rattle.cmd_send.specs.Sends.{IsSendable}
use Rattle.link_report.specs.declared.ending.Ending.{Ending}
use Rattle.link_report.specs.declared.ending.Ending.TheVariants as endings
use Rattle.link_report.specs.declared.summary.Summary.{Summary}
use Rattle.cmd_send.specs.OverWire.{CouldNotAim, SendsOver, SentBehindAim, behind_aim}
use Rattle.vc_ports.specs.Changes.{InputChange, WireChange, HasRisen}
use Rattle.vc_types.specs.SenderSettings.{Sending}

module _ (s : Sending) (most : ℕ) (to : List ℕ) (input : InputChange) (wire : WireChange) (sound_input : HasRisen input.faults → ⊥) (sound_wire : HasRisen wire.faults → ⊥) (whole : IsSomeAnd input.left.before (IsSendable s most)) where
  by_way : (answer : Result Summary Ending) → (answer ≡ Err endings.WireFailed → HasRisen wire.faults) → SentBehindAim s most to answer input wire ⊎ CouldNotAim answer input wire → IsOk answer ⊎ (answer ≡ Err endings.NoMemory)
  by_way answer failed (inl sends) =
      sending_completes s most input (SentAll (behind_aim to wire)) (SentPart (behind_aim to wire)) sound_input
      (λ datagrams part. cc part.fault_is) (λ datagrams part. sound_wire part.rose) whole answer sends
  by_way answer failed (inr could_not) = absurd (sound_wire (failed could_not.answer_is))

  pub send_completes : (answer : Result Summary Ending) → SendsOver s most to answer input wire → IsOk answer ⊎ (answer ≡ Err endings.NoMemory)
  send_completes answer e = by_way answer e.wire_failed e.did

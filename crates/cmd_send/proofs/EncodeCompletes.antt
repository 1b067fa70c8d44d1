-- Where no fault came, whole frames that aren't refused, at most as many as were asked for, are encoded
-- to their end, unless memory runs out.
use Rattle.std.proofs.Common.{◌≡◌, ◌⊎◌, ℕ, IsSomeAnd, Result, Err}
use Rattle.std.specs.Result.{IsOk}
use Rattle.link_outside.specs.Outlets.{WroteEntries, WrotePartOfEntries}
use Rattle.cmd_send.specs.Encodes.{Encodes, IsEncodable}
use Rattle.cmd_send.proofs.FramesComplete.{sending_completes}
use Rattle.link_report.specs.declared.ending.Ending.{Ending}
use Rattle.link_report.specs.declared.ending.Ending.TheVariants as endings
use Rattle.link_report.specs.declared.summary.Summary.{Summary}
use Rattle.vc_ports.specs.Changes.{InputChange, OutputChange, HasRisen}
use Rattle.vc_types.specs.SenderSettings.{Sending}

module _ (s : Sending) (most : ℕ) (input : InputChange) (output : OutputChange) (sound_input : HasRisen input.faults → ⊥) (sound_output : HasRisen output.faults → ⊥) (whole : IsSomeAnd input.left.before (IsEncodable s most)) where
  pub encode_completes : (answer : Result Summary Ending) → Encodes s most answer input output → IsOk answer ⊎ (answer ≡ Err endings.NoMemory)
  encode_completes answer e =
      sending_completes s most input (WroteEntries output) (WrotePartOfEntries output) sound_input
      (λ datagrams part. sound_output part.rose) (λ datagrams part. cc part.fault_is) whole answer e.sends

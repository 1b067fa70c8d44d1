-- Where no fault came, whole frames that aren't refused, at most as many as were asked for, are sent to
-- their end and what comes is heard, unless memory runs out.
use Rattle.std.proofs.Common.{◌≡◌, ◌⊎◌, ℕ, List, IsSomeAnd, Option, Result, Ok, Err, inl, inr, refl, subst}
use Rattle.std.specs.Result.{IsOk}
use Rattle.link_outside.specs.declared.outlet.OutletFault.{OutletFault}
use Rattle.cmd_send.proofs.FramesComplete.{sending_completes}
use Rattle.cmd_send.specs.Sends.{IsSendable, SendEnded, SendsFrames}
use Rattle.link_report.specs.declared.ending.Ending.{Ending}
use Rattle.link_report.specs.declared.ending.Ending.TheVariants as endings
use Rattle.link_report.specs.declared.summary.Summary.{Summary}
use Rattle.cmd_receive.specs.Looping.{CouldNotBegin, HasLooped, IsUnready, LoopsBack, LoopWrote, SentInTurn, SentSome}
use Rattle.vc_ports.specs.Changes.{Change, InputChange, OutputChange, WireChange, HasRisen}
use Rattle.vc_slice.specs.Asked.{Told}
use Rattle.vc_types.specs.Planes.{Planes}
use Rattle.vc_types.specs.SenderSettings.{Sending}

module _ (s : Sending) (frames window workers : ℕ) (at : List ℕ) (input : InputChange) (output : OutputChange) (wire : WireChange) (hands : Change (Option Told))
    (sound_input : HasRisen input.faults → ⊥) (sound_output : HasRisen output.faults → ⊥) (sound_wire : HasRisen wire.faults → ⊥)
    (whole : IsSomeAnd input.left.before (IsSendable s frames)) where
  abbrev Completes : Result Summary Ending → Type 0
  Completes answer = IsOk answer ⊎ (answer ≡ Err endings.NoMemory)

  abbrev NoFault : List (List ℕ) → OutletFault → Type 0
  NoFault datagrams fault = ⊥

  module _ (heard : List (List ℕ)) where
    abbrev Sends : (List (List ℕ) → OutletFault → Type 0) → Result Summary Ending → Type 0
    Sends broke sending = SendsFrames s frames sending input (SentInTurn at wire heard) broke

    abbrev Did : Result Summary Ending → Type 0
    Did answer = HasLooped s frames window at answer input output wire heard ⊎ CouldNotBegin at answer input output wire heard

  -- no datagram failed to go out
  module _ (heard : List (List ℕ)) (ending : Ending) (begun : IsUnready at (Err ending) wire → ⊥)
      (same : (sending : Result Summary Ending) → LoopWrote window sending (Err ending) output heard → sending ≡ Err ending)
      (unbroken : (given : List Planes) (rest : List ℕ) → SendEnded s frames (Err ending) input (SentInTurn at wire heard) (SentSome at wire heard) given rest
      → SendEnded s frames (Err ending) input (SentInTurn at wire heard) NoFault given rest) where
    without_fault : Sends heard (SentSome at wire heard) (Err ending) → Sends heard NoFault (Err ending)
    without_fault e = record {
      given = e.given;
      frames = e.frames;
      rest = e.rest;
      took = e.took;
      holds = e.holds;
      ended = unbroken e.frames e.rest e.ended;
      input_failed = e.input_failed;
    }

    until : Did heard (Err ending) → Completes (Err ending)
    until (inl h) =
        sending_completes s frames input (SentInTurn at wire heard) NoFault sound_input (λ datagrams never. never) (λ datagrams never. never) whole (Err ending)
        (without_fault (subst (Sends heard (SentSome at wire heard)) (same h.sending h.wrote) h.sends))
    until (inr n) = absurd (begun n.unready)

  pub loop_completes : (answer : Result Summary Ending) → LoopsBack s frames window workers at answer input output wire hands → Completes answer
  loop_completes (Ok summary) e = inl refl
  loop_completes (Err endings.NoMemory) e = inr refl
  loop_completes (Err endings.InputFailed) e = absurd (sound_input (e.input_failed refl))
  loop_completes (Err endings.OutputFailed) e = absurd (sound_output (e.output_failed refl))
  loop_completes (Err endings.WireFailed) e = absurd (sound_wire (e.wire_failed refl))
  loop_completes (Err (endings.Usage place)) e = until e.heard (endings.Usage place) (λ never. never) (λ sending w. w.0) (λ given rest ended. ended) e.did
  loop_completes (Err (endings.CaptureCut place)) e = until e.heard (endings.CaptureCut place) (λ never. never) (λ sending w. w.0) (λ given rest ended. ended) e.did
  loop_completes (Err (endings.PacketLimit limit)) e = until e.heard (endings.PacketLimit limit) (λ never. never) (λ sending w. w.0) (λ given rest ended. ended) e.did
  loop_completes (Err (endings.RawCut number)) e = until e.heard (endings.RawCut number) (λ never. never) (λ sending w. w.0) (λ given rest ended. ended) e.did
  loop_completes (Err (endings.SampleTooLarge place plane value)) e = until e.heard (endings.SampleTooLarge place plane value) (λ never. never) (λ sending w. w.0) (λ given rest ended. ended) e.did
  loop_completes (Err (endings.SliceTooLarge slice bytes)) e = until e.heard (endings.SliceTooLarge slice bytes) (λ never. never) (λ sending w. w.0) (λ given rest ended. ended) e.did
  loop_completes (Err (endings.StreamBad place)) e = until e.heard (endings.StreamBad place) (λ never. never) (λ sending w. w.0) (λ given rest ended. ended) e.did
  loop_completes (Err (endings.FrameLimit limit)) e = until e.heard (endings.FrameLimit limit) (λ never. never) (λ sending w. w.0) (λ given rest ended. ended) e.did

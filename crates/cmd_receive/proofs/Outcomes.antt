-- What sending came to says which datagrams went out, or what failed.
use Rattle.std.proofs.Common.{ℕ, List, Ok, Err, inl, inr}
use Rattle.std.specs.Prelude.{Result, ◌⊎◌}
use Rattle.link_outside.specs.declared.outlet.OutletFault.{OutletFault}
use Rattle.link_outside.specs.declared.outlet.OutletFault.TheVariants as outlets
use Rattle.cmd_send.specs.Sends.{SendEnded, SendsFrames}
use Rattle.link_report.specs.declared.ending.Ending.{Ending}
use Rattle.link_report.specs.declared.ending.Ending.TheVariants as endings
use Rattle.link_report.specs.declared.summary.Summary.{Summary}
use Rattle.link_report.specs.declared.summary.Summary.TheVariants as summaries
use Rattle.vc_ports.specs.Changes.{InputChange}
use Rattle.vc_types.specs.Planes.{Planes}
use Rattle.vc_types.specs.SenderSettings.{Sending}

module _ (went : List (List ℕ) → Type 0) (broke : List (List ℕ) → OutletFault → Type 0) where
  abbrev pub Outcome : Result Summary Ending → Type 0
  Outcome (Err endings.OutputFailed) = (datagrams : List (List ℕ)) × broke datagrams outlets.Output
  Outcome (Err endings.WireFailed) = (datagrams : List (List ℕ)) × broke datagrams outlets.Wire
  Outcome (Err endings.NoMemory) = (datagrams : List (List ℕ)) × (went datagrams ⊎ broke datagrams outlets.NoMemory)
  Outcome answer = (datagrams : List (List ℕ)) × went datagrams

  module _ (s : Sending) (most : ℕ) (input : InputChange) where
    by_ending : (answer : Result Summary Ending) (frames : List Planes) (rest : List ℕ) → SendEnded s most answer input went broke frames rest → Outcome answer
    by_ending (Ok (summaries.Sent count datagrams bytes)) frames rest e = (_, e.sent)
    by_ending (Err endings.NoMemory) frames rest (inl e) = (_, inl e.sent)
    by_ending (Err endings.NoMemory) frames rest (inr e) = (_, inr e.part_sent)
    by_ending (Err endings.OutputFailed) frames rest e = (_, e.part_sent)
    by_ending (Err endings.WireFailed) frames rest e = (_, e.part_sent)
    by_ending (Err endings.InputFailed) frames rest e = (_, e.sent)
    by_ending (Err (endings.RawCut number)) frames rest e = (_, e.sent)
    by_ending (Err (endings.SampleTooLarge place plane value)) frames rest e = (_, e.sent)
    by_ending (Err (endings.SliceTooLarge slice bytes)) frames rest e = (_, e.sent)
    by_ending (Err (endings.FrameLimit limit)) frames rest e = (_, e.sent)
    by_ending other frames rest e = absurd e

    pub outcome_of : (answer : Result Summary Ending) → SendsFrames s most answer input went broke → Outcome answer
    outcome_of answer e = by_ending answer e.frames e.rest e.ended

-- What sending did, said by other relations.
use Rattle.std.proofs.Common.{ℕ, List, Ok, Err, inl, inr, arith}
use Rattle.std.specs.Prelude.{Result}
use Rattle.std.proofs.lemmas.Grind.{common_steps}
use Rattle.link_outside.specs.declared.outlet.OutletFault.{OutletFault}
use Rattle.link_outside.specs.declared.outlet.OutletFault.TheVariants as outlets
use Rattle.cmd_send.specs.Sends.{CouldNotSendAll, EndsWithRefusedFrame, SendEnded, SendsFrames}
use Rattle.link_model.specs.SendingFaults.{SendFault}
use Rattle.link_model.specs.SendingFaults as faults
use Rattle.link_report.specs.declared.ending.Ending.{Ending}
use Rattle.link_report.specs.declared.ending.Ending.TheVariants as endings
use Rattle.link_report.specs.declared.summary.Summary.{Summary}
use Rattle.link_report.specs.declared.summary.Summary.TheVariants as summaries
use Rattle.vc_ports.specs.Changes.{InputChange}
use Rattle.vc_types.specs.Planes.{Planes}
use Rattle.vc_types.specs.SenderSettings.{Sending}

-- The other relations speak of something that is the same in each part of what is said.
module _ (H : Type 0) (s : Sending) (most : ℕ) (input : InputChange)
    (went : List (List ℕ) → Type 0) (went_so : H → List (List ℕ) → Type 0)
    (broke : List (List ℕ) → OutletFault → Type 0) (broke_so : H → List (List ℕ) → OutletFault → Type 0)
    (carry : (datagrams : List (List ℕ)) → went datagrams → (h : H) × went_so h datagrams)
    (break : (datagrams : List (List ℕ)) (fault : OutletFault) → broke datagrams fault
    → (h : H) × broke_so h datagrams fault) where
  unsent_at : (frames : List Planes) (rest : List ℕ) (fault : OutletFault)
      → CouldNotSendAll s most broke frames rest fault
      → (h : H) × CouldNotSendAll s most (broke_so h) frames rest fault
  unsent_at frames rest fault e =
      let so = break _ fault e.part_sent in
      (so.0, record { sendable = e.sendable; few = e.few; no_rest = e.no_rest; part_sent = so.1 })

  refused_at : (frames : List Planes) (rest : List ℕ) (fault : SendFault)
      → EndsWithRefusedFrame s most went frames rest fault
      → (h : H) × EndsWithRefusedFrame s most (went_so h) frames rest fault
  refused_at frames rest fault e = grind (arith, common_steps)

  ended_at : (answer : Result Summary Ending) (frames : List Planes) (rest : List ℕ)
      → SendEnded s most answer input went broke frames rest
      → (h : H) × SendEnded s most answer input (went_so h) (broke_so h) frames rest
  ended_at (Ok (summaries.Sent count datagrams bytes)) frames rest e = grind (arith, common_steps)
  ended_at (Err endings.NoMemory) frames rest (inl e) = grind (arith, common_steps)
  ended_at (Err endings.NoMemory) frames rest (inr e) =
      let so = unsent_at frames rest outlets.NoMemory e in (so.0, inr so.1)
  ended_at (Err endings.InputFailed) frames rest e =
      let so = carry _ e.sent in
      (so.0, record { sendable = e.sendable; few = e.few; wanted = e.wanted; sent = so.1 })
  ended_at (Err endings.OutputFailed) frames rest e = unsent_at frames rest outlets.Output e
  ended_at (Err endings.WireFailed) frames rest e = unsent_at frames rest outlets.Wire e
  ended_at (Err (endings.RawCut number)) frames rest e = grind (arith, common_steps)
  ended_at (Err (endings.SampleTooLarge place plane value)) frames rest e = refused_at frames rest (faults.SampleRange plane place value) e
  ended_at (Err (endings.SliceTooLarge slice bytes)) frames rest e = refused_at frames rest (faults.SliceTooLarge slice bytes) e
  ended_at (Err (endings.FrameLimit limit)) frames rest e = grind (arith, common_steps)
  ended_at other frames rest e = absurd e

  pub sends_at : (answer : Result Summary Ending) → SendsFrames s most answer input went broke
      → (h : H) × SendsFrames s most answer input (went_so h) (broke_so h)
  sends_at answer e = grind (arith, common_steps, ended_at)

-- weaker relations
pub sends_weaker : (s : Sending) (most : ℕ) (input : InputChange) (went went_so : List (List ℕ) → Type 0)
    (broke broke_so : List (List ℕ) → OutletFault → Type 0)
    → ((datagrams : List (List ℕ)) → went datagrams → went_so datagrams)
    → ((datagrams : List (List ℕ)) (fault : OutletFault) → broke datagrams fault → broke_so datagrams fault)
    → (answer : Result Summary Ending) → SendsFrames s most answer input went broke
    → SendsFrames s most answer input went_so broke_so
sends_weaker s most input went went_so broke broke_so carry break answer did =
    (sends_at (Unit {0}) s most input went (λ u. went_so) broke (λ u. broke_so)
    (λ datagrams w. (tt, carry datagrams w))
    (λ datagrams fault b. (tt, break datagrams fault b)) answer did).1

-- what holds wherever datagrams went out, and wherever a part of them did
pub sends_all : (P : Type 0) (s : Sending) (most : ℕ) (input : InputChange) (went : List (List ℕ) → Type 0) (broke : List (List ℕ) → OutletFault → Type 0)
    → ((datagrams : List (List ℕ)) → went datagrams → P) → ((datagrams : List (List ℕ)) (fault : OutletFault) → broke datagrams fault → P)
    → (answer : Result Summary Ending) → SendsFrames s most answer input went broke → P
sends_all P s most input went broke by_all by_part answer did =
    (sends_at P s most input went (λ p. went) broke (λ p. broke)
    (λ datagrams w. (by_all datagrams w, w))
    (λ datagrams fault b. (by_part datagrams fault b, b)) answer did).0

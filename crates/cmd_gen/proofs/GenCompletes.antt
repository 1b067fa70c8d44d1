-- Without a fault of the output all frames are generated, unless memory runs out.
use Rattle.std.proofs.Common.{◌≡◌, ◌⊎◌, Result, Ok, Err, inl, inr, refl, ap}
use Rattle.std.specs.Result.{IsOk}
use Rattle.cmd_gen.specs.Generating.{GenerateEnded, Generates}
use Rattle.link_report.specs.declared.ending.Ending.{Ending}
use Rattle.link_report.specs.declared.ending.Ending.TheVariants as endings
use Rattle.link_report.specs.declared.summary.Summary.{Summary}
use Rattle.vc_ports.specs.Changes.{OutputChange, HasRisen}
use Rattle.vc_types.specs.SenderSettings.{Generating}

module _ (g : Generating) (output : OutputChange) (sound : HasRisen output.faults → ⊥) where
  abbrev failed : Ending → Result Summary Ending
  failed ending = Err ending

  abbrev Came : Result Summary Ending → Type 0
  Came answer = IsOk answer ⊎ (answer ≡ Err endings.NoMemory)

  by_ending : (ending : Ending) → GenerateEnded g (Err ending) output → (ending ≡ endings.OutputFailed → ⊥) → Came (Err ending)
  by_ending endings.NoMemory ended wrote = inr refl
  by_ending endings.OutputFailed ended wrote = absurd (wrote refl)
  by_ending ending ended wrote = absurd ended

  pub generate_completes : (answer : Result Summary Ending) → Generates g answer output → IsOk answer ⊎ (answer ≡ Err endings.NoMemory)
  generate_completes (Ok summary) e = inl refl
  generate_completes (Err ending) e = by_ending ending e.ended (λ f. sound (e.output_failed (ap failed f)))

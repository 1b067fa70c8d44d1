-- Where no fault came, a whole input is reported on, or shown, to its end, unless memory runs out.
use Rattle.std.proofs.Common.{◌≡◌, ℕ, List, Ok, Err, IsSomeAnd, refl, ap, inl, inr}
use Rattle.std.specs.Prelude.{Result, ◌⊎◌}
use Rattle.std.specs.Result.{IsOk}
use Rattle.link_hearing.proofs.WholeInputs.{no_early_end}
use Rattle.link_hearing.specs.Inputs.{IsWholeInput}
use Rattle.link_hearing.specs.declared.form.InputForm.{InputForm}
use Rattle.link_report.specs.declared.ending.Ending.{Ending}
use Rattle.link_report.specs.declared.ending.Ending.TheVariants.{NoMemory, OutputFailed}
use Rattle.link_report.specs.declared.summary.Summary.{Summary}
use Rattle.rtcp_reports.specs.Reports.{Reporting}
use Rattle.vc_ports.specs.Changes.{InputChange, OutputChange, HasRisen}
use Rattle.cmd_rtcp.specs.Answering.{AnswersInput}
use Rattle.cmd_rtcp.specs.Reporting.{ReportsOn}
use Rattle.cmd_rtcp.specs.Showing.{Shows}

module _ (packets : ℕ) (form : InputForm) (input : InputChange) (output : OutputChange)
    (sound_input : HasRisen input.faults → ⊥) (sound_output : HasRisen output.faults → ⊥)
    (whole : IsSomeAnd input.left.before (IsWholeInput form packets)) where
  pub completes : {A : Type 0} (written : List (List ℕ) → List ℕ) (is : A → List (List ℕ) → Type 0) (result : Result A Ending)
      → AnswersInput written is form packets result input output → IsOk result ⊎ (result ≡ Err NoMemory)
  completes written is (Ok value) d = inl refl
  completes written is (Err NoMemory) d = inr refl
  completes written is (Err OutputFailed) d = absurd (sound_output (d.output_failed refl))
  completes written is (Err end) d =
      absurd (no_early_end packets d.given input d.took end
      (λ failed. sound_input (d.input_failed (ap Err failed))) form whole d.ended.0)

  pub rtcp_completes : (r : Reporting) (result : Result Summary Ending) → ReportsOn r packets form result input output
      → IsOk result ⊎ (result ≡ Err NoMemory)
  rtcp_completes r result d = completes _ _ result d

  pub show_completes : (result : Result Summary Ending) → Shows packets form result input output
      → IsOk result ⊎ (result ≡ Err NoMemory)
  show_completes result d = completes _ _ result d

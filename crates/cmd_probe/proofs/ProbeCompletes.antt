-- Where no fault came, a whole input is described, unless memory runs out.
use Rattle.std.proofs.Common.{◌≡◌, ℕ, Err, IsSomeAnd}
use Rattle.std.specs.Prelude.{Result, ◌⊎◌}
use Rattle.std.specs.Result.{IsOk}
use Rattle.cmd_rtcp.proofs.ReportCompletes.{completes}
use Rattle.link_hearing.specs.Inputs.{IsWholeInput}
use Rattle.link_hearing.specs.declared.form.InputForm.{InputForm}
use Rattle.link_report.specs.declared.ending.Ending.{Ending}
use Rattle.link_report.specs.declared.ending.Ending.TheVariants.{NoMemory}
use Rattle.link_report.specs.declared.summary.Summary.{Summary}
use Rattle.vc_ports.specs.Changes.{InputChange, OutputChange, HasRisen}
use Rattle.cmd_probe.specs.Probing.{Probes}

module _ (packets : ℕ) (form : InputForm) (input : InputChange) (output : OutputChange)
    (sound_input : HasRisen input.faults → ⊥) (sound_output : HasRisen output.faults → ⊥)
    (whole : IsSomeAnd input.left.before (IsWholeInput form packets)) where
  pub probe_completes : (result : Result Summary Ending) → Probes packets form result input output
      → IsOk result ⊎ (result ≡ Err NoMemory)
  probe_completes result d =
      completes packets form input output sound_input sound_output whole _ _ result d

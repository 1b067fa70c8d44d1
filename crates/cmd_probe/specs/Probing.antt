-- What probing an input did, by how it ended.
use Rattle.std.specs.Prelude.{◌≡◌, ℕ, length, Result}
use Rattle.link_report.specs.declared.ending.Ending.{Ending}
use Rattle.link_report.specs.declared.summary.Summary.{Summary}
use Rattle.link_report.specs.declared.summary.Summary.TheVariants.{Shown}
use Rattle.vc_ports.specs.Changes.{InputChange, OutputChange}
use Rattle.link_hearing.specs.declared.form.InputForm.{InputForm}
use Rattle.cmd_rtcp.specs.Answering.{AnswersInput}
use Rattle.cmd_probe.specs.Description.{description_of}

-- the description of its datagrams was written
abbrev pub Probes : ℕ → InputForm → Result Summary Ending → InputChange → OutputChange → Type 0
Probes packets form result input output =
    AnswersInput description_of (λ summary datagrams. summary ≡ Shown (length datagrams)) form packets
    result input output

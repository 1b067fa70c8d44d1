-- What reporting on the source of an input's datagrams did, by how it ended.
use Rattle.std.specs.Prelude.{◌≡◌, ℕ, List, length, Result}
use Rattle.link_outside.specs.Outlets.{capture_of}
use Rattle.link_report.specs.declared.ending.Ending.{Ending}
use Rattle.link_report.specs.declared.summary.Summary.{Summary}
use Rattle.link_report.specs.declared.summary.Summary.TheVariants.{Reported}
use Rattle.rtcp_reports.specs.Reports.{Reporting, packets_of, report_entries}
use Rattle.vc_ports.specs.Changes.{InputChange, OutputChange}
use Rattle.link_hearing.specs.declared.form.InputForm.{InputForm}
use Rattle.cmd_rtcp.specs.Answering.{AnswersInput}

-- how many datagrams came, how many of them are packets of the source, and how many reports there are
abbrev pub report_counts : Reporting → List (List ℕ) → Summary
report_counts r datagrams =
    Reported (length datagrams) (length (packets_of datagrams)) (length (report_entries r datagrams))

-- the reports on the datagrams were written as the entries of a capture
abbrev pub ReportsOn : Reporting → ℕ → InputForm → Result Summary Ending → InputChange → OutputChange
    → Type 0
ReportsOn r packets form result input output =
    AnswersInput (λ datagrams. capture_of (report_entries r datagrams))
    (λ summary datagrams. summary ≡ report_counts r datagrams) form packets result input output

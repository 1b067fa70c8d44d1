-- What a reporter has heard.
use Rattle.std.specs.Prelude.{◌≡◌, ℕ, List, length, Option, Some, None}
use Rattle.link_outside.specs.Outlets.{capture_of}
use Rattle.link_report.specs.declared.summary.Summary.{Summary}
use Rattle.link_report.specs.declared.summary.Summary.TheVariants.{Reported}
use Rattle.rtcp_reports.specs.Reports.{Reporting, packets_of, report_entries}
use Rattle.cmd_rtcp.specs.Due.{Due}
use Rattle.cmd_rtcp.specs.Sources.{CanReport, KeepsSource, reporting_of, reports_so_far}
use Rattle.cmd_rtcp.specs.declared.reporter.Reporter.{Reporter}
use Rattle.cmd_rtcp.specs.declared.source.Source.{Source}

-- the entries of the reports, behind the last of which there may be one more at the end
abbrev pub due_reports : Reporting → Due
due_reports r = record {
  so_far = λ datagrams. capture_of (reports_so_far r (packets_of datagrams));
  in_all = λ datagrams. capture_of (report_entries r datagrams);
}

-- these datagrams: the source is kept as their packets make it known
pub record HasReported (r : Reporting) (x : Reporter) (heard : List (List ℕ)) : Type 0 where
  pub reporting : reporting_of x.settings ≡ r
  pub can : CanReport x.settings
  pub keeps : KeepsSource r x.source (packets_of heard) (length heard)

-- the source's packets, and the reports
abbrev pub packets_counted : Option Source → ℕ
packets_counted None = 0
packets_counted (Some source) = source.packets

abbrev pub reports_counted : Option Source → ℕ
reports_counted None = 0
reports_counted (Some source) = source.reports

-- these are all, and were counted
pub record HasSummedUp (r : Reporting) (x : Reporter) (heard : List (List ℕ)) : Type 0 where
  pub packets : packets_counted x.source ≡ length (packets_of heard)
  pub reports : reports_counted x.source ≡ length (report_entries r heard)

abbrev pub summary_by : Reporter → ℕ → Summary
summary_by x datagrams = Reported datagrams (packets_counted x.source) (reports_counted x.source)

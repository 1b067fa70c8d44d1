use Rattle.cmd_rtcp.proofs.Ending.{last_reports}
use Rattle.cmd_rtcp.specs.Sources.{reporting_of}
use Rattle.cmd_rtcp.proofs.source.Source.end.Goals as goal

pub returns-then-self-clause-makes : goal.returns-then-self-clause-makes
returns-then-self-clause-makes c =
    last_reports (reporting_of c.args.settings.now) c.args.self.now c.report.new.self c.report.result c.if-self.true
    c.report.ensures.makes

use Rattle.std.proofs.Common.{refl}
use Rattle.cmd_rtcp.proofs.Ending.{ends_none, ends_ok}
use Rattle.cmd_rtcp.specs.Sources.{reporting_of}
use Rattle.cmd_rtcp.proofs.reporter.ReporterScribe.end.Goals as goal

pub returns-in-Some-clause-ends : goal.returns-in-Some-clause-ends
returns-in-Some-clause-ends c =
    ends_ok c.args.self.now _ c.in-Some.source c.end.new.self c.end.result c.in-Some.is refl c.end.ensures.makes

pub returns-in-None-clause-ends : goal.returns-in-None-clause-ends
returns-in-None-clause-ends c = λ first heard h.
    ends_none c.args.self.now c.in-None.is (reporting_of first.settings) heard h

use Rattle.rtp_head.specs.Views.{packet_of}
use Rattle.cmd_rtcp.proofs.Taking.{reported, unreported}
use Rattle.cmd_rtcp.specs.Sources.{reporting_of}
use Rattle.cmd_rtcp.proofs.source.Source.take.Goals as goal

pub returns-then-self-from-eq0-clause-makes : goal.returns-then-self-from-eq0-clause-makes
returns-then-self-from-eq0-clause-makes c =
    reported (reporting_of c.args.settings.now) (packet_of c.args.packet.now) c.args.self.now c.count.new.self
    c.count.ensures.kept c.report.new.self c.report.result (rw c.from.ensures at c.if-self-from-eq0.true)
    c.report.ensures.makes

pub returns-else-self-from-eq0-clause-makes : goal.returns-else-self-from-eq0-clause-makes
returns-else-self-from-eq0-clause-makes c =
    unreported (reporting_of c.args.settings.now) (packet_of c.args.packet.now) c.args.self.now c.count.new.self
    c.count.ensures.kept (rw c.from.ensures at c.if-self-from-eq0.false)

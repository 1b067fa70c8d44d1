use Rattle.rtp_head.specs.Views.{packet_of}
use Rattle.cmd_rtcp.proofs.Taking.{first_ok}
use Rattle.cmd_rtcp.specs.Sources.{reporting_of}
use Rattle.cmd_rtcp.proofs.reporter.Reporter.take_packet.Goals as goal

pub returns-in-None-clause-makes : goal.returns-in-None-clause-makes
returns-in-None-clause-makes c =
    first_ok (reporting_of c.args.self.now.settings) c.args.self.now.source c.begin.new.self.source
    (packet_of c.args.packet.now) c.begin.result c.in-None.is c.begin.ensures.makes

use Rattle.rtcp_reports.specs.Reports.{followed_from}
use Rattle.rtp_head.specs.Views.{packet_of}
use Rattle.cmd_rtcp.proofs.Taking.{begun}
use Rattle.cmd_rtcp.specs.Sources.{reporting_of}
use Rattle.cmd_rtcp.proofs.reporter.Reporter.begin.Goals as goal

pub returns-clause-makes : goal.returns-clause-makes
returns-clause-makes c = λ n.
    let p = packet_of c.args.packet.now in
    begun (reporting_of c.args.self.now.settings) p n c.take.new.self c.in_ok-piece.piece
    (c.in_ok-piece.ensures.within 0 c.new-source.ensures.within)
    (c.in_ok-piece.ensures.makes p.ssrc (followed_from p) c.new-source.ensures.kept)

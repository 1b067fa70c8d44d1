use Rattle.std.proofs.Common.{ap, refl, None}
use Rattle.rtcp_reports.specs.Reports.{accepted}
use Rattle.rtp_head.specs.Views.{packet_of}
use Rattle.cmd_rtcp.proofs.Taking.{refused, takes, takes_ok}
use Rattle.cmd_rtcp.specs.Sources.{reporting_of}
use Rattle.cmd_rtcp.specs.declared.piece.Piece.TheVariants.{Nothing}
use Rattle.cmd_rtcp.proofs.reporter.ReporterScribe.take.Goals as goal

pub returns-in-Ok-clause-takes : goal.returns-in-Ok-clause-takes
returns-in-Ok-clause-takes c =
    takes_ok c.args.self.now c.take_packet.new.self c.args.datagram.now (packet_of c.in-Ok.packet) c.take_packet.result
    (ap accepted c.in-Ok.ensures.value) c.take_packet.ensures.settings c.take_packet.ensures.makes

pub returns-in-Err-clause-takes : goal.returns-in-Err-clause-takes
returns-in-Err-clause-takes c = λ first heard h.
    let x = c.args.self.now in
    takes x x c.args.datagram.now None Nothing (ap accepted c.in-Err.ensures.value) refl
    (λ packets n k. refused (reporting_of x.settings) x.source packets n k) (reporting_of first.settings) heard h

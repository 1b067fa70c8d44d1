use Rattle.std.proofs.Common.{sym}
use Rattle.std.proofs.lemmas.Result.{err_from_is_err_and}
use Rattle.rtcp_reports.proofs.Compounds.{refused_first, refused_later, accepted}
use Rattle.rtcp_reports.proofs.read.compound.Goals as goal

pub returns-in_err-size : goal.returns-in_err-size
returns-in_err-size c =
    let p = err_from_is_err_and c.from_residual.result c.from_residual.ensures.1 in
    rw (p.1, p.2) (sym (refused_first c.args.bytes.now _ (sym c.in_err-size.ensures.value)))

pub returns-in_err-read_packets : goal.returns-in_err-read_packets
returns-in_err-read_packets c =
    let p = err_from_is_err_and c.from_residual-in_err-read_packets.result c.from_residual-in_err-read_packets.ensures.1 in
    rw (p.1, p.2) (sym (refused_later c.args.bytes.now _ _ (sym c.in_ok-size.ensures.value)
    (rw c.split_at.ensures.back at c.in_err-read_packets.ensures.err)))

pub returns : goal.returns
returns c = rw c.report_view.ensures (sym (accepted c.args.bytes.now _ (sym c.in_ok-size.ensures.value)
    (rw c.split_at.ensures.back at c.in_ok-read_packets.ensures.ok)))

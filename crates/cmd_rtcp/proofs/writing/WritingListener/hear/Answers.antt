use Rattle.std.proofs.Common.{◌≡◌, Err, refl, rules}
use Rattle.cmd_rtcp.proofs.Hearing.{breaks_one}
use Rattle.cmd_rtcp.specs.Writings.{writing_state}
use Rattle.cmd_rtcp.proofs.writing.WritingListener.hear.Goals as goal

pub returns-in_err-write_piece-clause-broke : goal.returns-in_err-write_piece-clause-broke
returns-in_err-write_piece-clause-broke g c =
    let e = c.in_err-write_piece.field-0.0 in
    let told : c.from_residual.result ≡ Err e = search rules in
    rw told (
      (refl, refl),
      breaks_one g.S.Scribe.has_heard g.S.Scribe.has_ended g.S.Scribe.due
          (writing_state g.O.Sink.held g.O.Sink.faults c.args.self.now) _ c.write_piece.ensures.later
          c.args.datagram g.met.S.Scribe.more g.met.S.Scribe.all c.take-piece.result e
          (λ said is. rw c.as_slice.ensures at (rw is at c.take-piece.ensures.takes))
          c.in_err-write_piece.ensures.writes,
    )

use Rattle.std.proofs.Common.{refl}
use Rattle.cmd_rtcp.proofs.Hearing.{takes_end}
use Rattle.cmd_rtcp.specs.Writings.{writing_state}
use Rattle.cmd_rtcp.proofs.writing.Writing.end.Goals as goal

pub returns-clause-ends : goal.returns-clause-ends
returns-clause-ends g c =
    takes_end g.S.Scribe.has_heard g.S.Scribe.has_ended g.S.Scribe.due
    (writing_state g.O.Sink.held g.O.Sink.faults c.args.self.now) _ c.write_piece.ensures.later g.met.S.Scribe.all
    c.end-piece.result c.write_piece.result (λ said is. rw is at c.end-piece.ensures.ends) refl
    c.write_piece.ensures.writes

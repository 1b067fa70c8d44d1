use Rattle.std.proofs.Common.{arith}
use Rattle.rtcp_reports.proofs.Judging.{tries, orders, jumps, lates, counts_updates}
use Rattle.rtcp_reports.proofs.Counting.{counted-update}
use Rattle.rtcp_reports.proofs.track.Track.update.Goals as goal

pub invariant_of-self : goal.invariant_of-self
invariant_of-self c = counted-update _ _ c.self.view_is c.requires c.self.invariant

pub returns-then-self-gt0-clause-value : goal.returns-then-self-gt0-clause-value
returns-then-self-gt0-clause-value c =
    tries _ _ c.args.seq c.self.view_is (c.try_out.new.self, c.try_out.result) (λ none. omega arith) c.try_out.ensures

pub returns-then-self-gt0-clause-updates : goal.returns-then-self-gt0-clause-updates
returns-then-self-gt0-clause-updates c = counts_updates _ _ c.args.seq _
    (tries _ _ c.args.seq c.self.view_is (c.try_out.new.self, c.try_out.result) (λ none. omega arith) c.try_out.ensures)

pub returns-then-ahead-lt-MAX_DROPOUT-clause-value : goal.returns-then-ahead-lt-MAX_DROPOUT-clause-value
returns-then-ahead-lt-MAX_DROPOUT-clause-value c =
    orders _ _ c.args.seq c.self.view_is c.wrapped.result (omega arith) (omega arith) c.wrapped.ensures

pub returns-then-ahead-clause-value : goal.returns-then-ahead-clause-value
returns-then-ahead-clause-value c =
    jumps _ _ c.args.seq c.self.view_is (c.jump.new.self, c.jump.result) (omega arith) (omega arith) (omega arith) c.jump.ensures

pub returns-then-ahead-clause-updates : goal.returns-then-ahead-clause-updates
returns-then-ahead-clause-updates c = counts_updates _ _ c.args.seq _
    (jumps _ _ c.args.seq c.self.view_is (c.jump.new.self, c.jump.result) (omega arith) (omega arith) (omega arith) c.jump.ensures)

pub returns-clause-value : goal.returns-clause-value
returns-clause-value c = lates _ _ c.args.seq c.self.view_is (omega arith) (omega arith)

use Rattle.std.proofs.Common.{arith}
use Rattle.rtcp_reports.proofs.Judging.{jumps_once, jumps_twice}
use Rattle.rtcp_reports.proofs.track.Track.jump.Goals as goal

pub returns-then-from-self : goal.returns-then-from-self
returns-then-from-self c = jumps_once _ _ c.args.seq c.self.view_is _ (λ same. omega arith) (omega arith)

pub returns : goal.returns
returns c = jumps_twice _ _ c.args.seq c.self.view_is c.restart.new.self (omega arith) c.restart.ensures

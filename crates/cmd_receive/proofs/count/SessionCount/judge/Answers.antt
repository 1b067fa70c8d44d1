use Rattle.cmd_receive.proofs.Counting.{counted}
use Rattle.cmd_receive.proofs.count.SessionCount.judge.Goals as goal

pub returns : goal.returns
returns c = λ sessions window datagrams datagram counts is. rw c.count.ensures (counted window datagrams datagram c.args.self.now sessions c.requires.left counts c.args.outcome is)

use Rattle.cmd_probe.proofs.Heard.{took}
use Rattle.cmd_probe.proofs.prober.ProberScribe.take.Goals as goal

pub returns-clause-takes : goal.returns-clause-takes
returns-clause-takes c = λ first heard has.
    took c.args.self.now c.hear.new.self c.args.datagram.now heard has c.in_ok-hear.ensures

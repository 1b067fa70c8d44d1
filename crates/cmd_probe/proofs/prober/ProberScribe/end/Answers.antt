use Rattle.cmd_probe.proofs.Heard.{described}
use Rattle.cmd_probe.proofs.prober.ProberScribe.end.Goals as goal

pub returns-in-Ok-clause-ends : goal.returns-in-Ok-clause-ends
returns-in-Ok-clause-ends c = λ first heard has.
    described c.args.self.now heard _ has (rw c.deref.ensures.value at c.in-Ok.ensures)

use Rattle.std.proofs.Common.{ap, refl}
use Rattle.machine_model.specs.Machine as machine
use Rattle.link_core.proofs.Stepping.{machine_of, reached_by}
use Rattle.link_core.proofs.machine.Core.complete.Goals as goal

pub invariant_of-self-2 : goal.invariant_of-self-2
invariant_of-self-2 c = reached_by c.self.inside.window c.self.inside.feeder c.self.inside.feeder c.self.inside.ring c.complete.new.ring c.self.invariant (machine.Complete c.args.place c.args.serial) refl
    (ap (machine_of c.self.inside.feeder) c.in_ok-complete.ensures.completed)

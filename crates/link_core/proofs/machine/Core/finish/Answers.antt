use Rattle.std.proofs.Common.{refl, ap}
use Rattle.machine_model.specs.Feeders.{Feeder}
use Rattle.machine_model.specs.Machine as machine
use Rattle.link_core.proofs.Stepping.{machine_of, reached_by}
use Rattle.link_core.proofs.machine.Core.finish.Goals as goal

pub invariant_of-self : goal.invariant_of-self
invariant_of-self c = reached_by c.self.inside.window c.self.inside.feeder c.end.new.self c.self.inside.ring c.self.inside.ring c.self.invariant machine.Finish refl
    (ap (λ (f : Feeder). machine_of f c.self.inside.ring) c.end.ensures)

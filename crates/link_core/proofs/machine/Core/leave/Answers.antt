use Rattle.std.proofs.Common.{ap, Bool, [], ◌∷◌}
use Rattle.machine_model.specs.Machine as machine
use Rattle.link_core.proofs.Stepping.{machine_of, reached_by, legal_if}
use Rattle.link_core.proofs.machine.Core.leave.Goals as goal

pub invariant_of-self : goal.invariant_of-self
invariant_of-self c = reached_by c.self.inside.window c.self.inside.feeder c.self.inside.feeder c.self.inside.ring c.leave.new.self c.self.invariant (machine.Leave c.args.place)
    (legal_if c.self.inside.window c.self.inside.feeder c.self.inside.ring (machine.Leave c.args.place) (c.is_held.result ∷ []) c.in_ok-all_of_1.ensures (ap (λ (b : Bool). b ∷ []) c.is_held.ensures))
    (ap (machine_of c.self.inside.feeder) c.in-Ok.ensures.freed)

use Rattle.std.proofs.Common.{ap, Bool, [], ◌∷◌}
use Rattle.std.specs.Prelude.{not}
use Rattle.machine_model.specs.Feeders.{Feeder}
use Rattle.machine_model.specs.Machine as machine
use Rattle.link_core.proofs.Stepping.{machine_of, reached_by, legal_if}
use Rattle.link_core.proofs.machine.Core.enter.Goals as goal

pub invariant_of-self-2 : goal.invariant_of-self-2
invariant_of-self-2 c = reached_by c.self.inside.window c.self.inside.feeder c.hear.new.self c.self.inside.ring c.self.inside.ring c.self.invariant (machine.Enter c.args.datagram)
    (legal_if c.self.inside.window c.self.inside.feeder c.self.inside.ring (machine.Enter c.args.datagram) (not c.has_ended.result ∷ []) c.in_ok-all_of_1.ensures (ap (λ (b : Bool). not b ∷ []) c.has_ended.ensures))
    (ap (λ (f : Feeder). machine_of f c.self.inside.ring) c.in_ok-hear.ensures.heard)

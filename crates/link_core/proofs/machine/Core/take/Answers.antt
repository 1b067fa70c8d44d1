use Rattle.std.proofs.Common.{ap, Bool, [], ◌∷◌}
use Rattle.machine_model.specs.Machine as machine
use Rattle.link_slices.specs.Jobs.{answered}
use Rattle.link_core.proofs.Stepping.{reached_by, legal_if, taken_is}
use Rattle.link_core.proofs.machine.Core.take.Goals as goal

pub invariant_of-self-2 : goal.invariant_of-self-2
invariant_of-self-2 c = reached_by c.self.inside.window c.self.inside.feeder c.accept.new.self c.self.inside.ring c.free_done.new.ring c.self.invariant (machine.Take c.args.place)
    (legal_if c.self.inside.window c.self.inside.feeder c.self.inside.ring (machine.Take c.args.place) (c.is_done.result ∷ []) c.in_ok-all_of_1.ensures (ap (λ (b : Bool). b ∷ []) c.is_done.ensures))
    (taken_is c.self.inside.window c.self.inside.feeder c.accept.new.self c.self.inside.ring c.free_done.new.ring c.args.place (answered c.in-Some.done.now) c.in-Some.ensures c.in_ok-accept.ensures.taken c.free_done.ensures.freed)

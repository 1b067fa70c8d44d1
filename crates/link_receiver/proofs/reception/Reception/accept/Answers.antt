use Rattle.std.proofs.Common.{◌≡◌, List, subst}
use Rattle.std.specs.Prelude.{OnOk}
use Rattle.machine_model.specs.Places.{Answered}
use Rattle.receiver_model.specs.Exchanging.{takes_dones}
use Rattle.link_slices.proofs.RunAnswers.{answers_are_own}
use Rattle.link_receiver.proofs.reception.Reception.accept.Goals as goal

pub returns-then-not-are_own-clause-value : goal.returns-then-not-are_own-clause-value
returns-then-not-are_own-clause-value g c =
    subst (λ (dones : List Answered).
    OnOk c.make_own.result (c.make_own.new.self ≡ takes_dones c.args.self.now dones))
    (answers_are_own c.args.done) c.make_own.ensures.made

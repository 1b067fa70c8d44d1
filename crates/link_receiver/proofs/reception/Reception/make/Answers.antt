use Rattle.std.proofs.Common.{inl, inr}
use Rattle.std.proofs.lemmas.Result.{on_ok_weaker}
use Rattle.link_receiver.proofs.CallSteps.{on_ok}
use Rattle.link_receiver.proofs.reception.Reception.make.Goals as goal

pub returns-then-count-gt0-clause-made : goal.returns-then-count-gt0-clause-made
returns-then-count-gt0-clause-made g c =
    on_ok_weaker c.make_run.result (λ made. inr made) c.make_run.ensures.made

pub returns-clause-made : goal.returns-clause-made
returns-clause-made g c = on_ok c.keep_room.result _ (inl c.keep_room.ensures.unchanged)

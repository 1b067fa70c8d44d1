use Rattle.std.proofs.Common.{◌≡◌, List, true, ap, subst, sym, ◌∙◌}
use Rattle.std.specs.List.{list_all}
use Rattle.std.specs.Prelude.{OnOk}
use Rattle.machine_model.specs.Places.{Answered}
use Rattle.receiver_model.specs.Exchanging.{is_own, takes_dones}
use Rattle.vc_slice.specs.declared.run.RunJob.{RunJob}
use Rattle.link_receiver.proofs.CallSteps.{on_ok}
use Rattle.link_slices.specs.Jobs.{jobs_of_run, made_run}
use Rattle.link_slices.proofs.RunAnswers.{answers_are_own}
use Rattle.link_receiver.proofs.reception.Reception.make_run.Goals as goal

pub returns-then-not-are_own-clause-made : goal.returns-then-not-are_own-clause-made
returns-then-not-are_own-clause-made g c =
    on_ok c.keep_room.result _ (c.keep_room.ensures.unchanged ∙ c.in_ok-make_own.ensures.made)

pub keep_own-requires : goal.keep_own-requires
keep_own-requires g c = record {
  own = subst (λ (job : RunJob). list_all (is_own c.args.self.now) (jobs_of_run job) ≡ true) (sym c.in_ok-done.ensures.job)
      (c.are_own.ensures c.if-not-are_own.false);
}

pub returns-clause-made : goal.returns-clause-made
returns-clause-made g c =
    let done = c.in_ok-done.done in
    subst (λ (dones : List Answered). OnOk c.keep_own.result (c.keep_own.new.self ≡ takes_dones c.args.self.now dones))
    (sym (answers_are_own done) ∙ ap made_run c.in_ok-done.ensures.job) c.keep_own.ensures.value

use Rattle.std.proofs.Common.{sym, ◌∙◌}
use Rattle.machine_model.specs.Places.{own_answer}
use Rattle.link_receiver.proofs.KeptRuns.{made_slice, takes_foreign}
use Rattle.link_slices.specs.Jobs.{job_in_run}
use Rattle.link_receiver.proofs.reception.Reception.make_slice.Goals as goal

pub returns-in_ok-make_slice-clause-made : goal.returns-in_ok-make_slice-clause-made
returns-in_ok-make_slice-clause-made g c =
    made_slice c.self.view_is c.make_slice.new.self (job_in_run c.args.job.now c.args.k)
    (sym c.is_own_slice.ensures ∙ c.if-is_own_slice.true) c.in_ok-make_slice.ensures.value

pub returns-else-is_own_slice-clause-made : goal.returns-else-is_own_slice-clause-made
returns-else-is_own_slice-clause-made g c =
    sym (takes_foreign c.args.self.now (own_answer (job_in_run c.args.job.now c.args.k))
    (sym c.is_own_slice.ensures ∙ c.if-is_own_slice.false))

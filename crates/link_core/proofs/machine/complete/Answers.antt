use Rattle.std.proofs.Common.{ap, ◌∙◌}
use Rattle.link_core.proofs.Completions.{accepts, not_refused}
use Rattle.link_slices.specs.Jobs.{job_of}
use Rattle.link_core.proofs.machine.complete.Goals as goal

pub unreachable-requires : goal.unreachable-requires
unreachable-requires c = not_refused c.in-Err.field-0 c.complete.result c.in-Err.is
    (c.complete.ensures.answer ∙ accepts c.args.ring.now c.args.place c.args.serial c.in_ok-done.done (job_of c.in-Some.job.now) c.in-Some.ensures
    (ap job_of (c.in_ok-done.ensures.job ∙ c.in_ok-copy.ensures.value)))

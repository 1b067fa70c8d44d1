use Rattle.std.proofs.Common.{ap, sym, ◌∙◌}
use Rattle.std.specs.Prelude.{not}
use Rattle.machine_model.specs.Feeders.{slice_job}
use Rattle.link_slices.specs.Jobs.{job_of}
use Rattle.link_core.proofs.Stepping.{put_verdict, some_mapped}
use Rattle.link_core.proofs.machine.put_verdict.Goals as goal

pub returns : goal.returns
returns c =
    c.all_of_5.ensures
    ∙ put_verdict c.args.window c.args.feeder.now c.args.ring.now c.args.place c.args.number c.args.index c.may_put.result c.is_some.result c.args.is_open (not c.stands_in.result) (not c.is_decoded.result)
    c.may_put.ensures
    (c.is_some.ensures ∙ some_mapped job_of c.args.job.now (slice_job c.args.window c.args.feeder.now c.args.number c.args.index) c.requires.job)
    (λ e. c.requires.is_open (sym c.is_some.ensures ∙ e))
    (ap not c.stands_in.ensures) (ap not c.is_decoded.ensures)

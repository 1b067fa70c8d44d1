use Rattle.std.proofs.Common.{arith, sym, ◌∙◌, slice_index_or, [], ◌+◌}
use Rattle.vc_types.specs.TransformParameters.{parameters_of}
use Rattle.link_window.specs.PictureJobs.{has_job_of}
use Rattle.link_window.proofs.OwnRuns.{other_plan, own_all, own_fails, own_more}
use Rattle.link_window.proofs.jobs.has_run.Goals as goal

pub loop-k-preserved : goal.loop-k-preserved
loop-k-preserved c = own_more (has_job_of c.args.book.now) c.args.run.now c.loop-k.k (omega arith) c.loop-k.invariant (sym c.has_bytes_of.ensures ∙ c.if-not-has_bytes_of.false)

pub returns-then-not-has_bytes_of : goal.returns-then-not-has_bytes_of
returns-then-not-has_bytes_of c = sym (own_fails (has_job_of c.args.book.now) c.args.run.now c.loop-k.k (omega arith) (sym c.has_bytes_of.ensures ∙ c.if-not-has_bytes_of.true))

pub returns-then-not-has_plan : goal.returns-then-not-has_plan
returns-then-not-has_plan c =
    let run = c.args.run.now in
    sym (own_fails (has_job_of c.args.book.now) run 0 run.some (other_plan c.args.book.now (parameters_of run.plan) run.number (run.first + 0) (slice_index_or run.slices.items 0 []) (sym c.has_plan.ensures ∙ c.if-not-has_plan.true)))

pub returns : goal.returns
returns c = sym (own_all (has_job_of c.args.book.now) c.args.run.now c.loop-k.k (omega arith) c.loop-k.invariant)

use Rattle.std.proofs.Common.{◌≡◌, List, [], ◌∷◌, ◌++◌, rules, ap, subst, sym, ◌∙◌, map-id}
use Rattle.std.proofs.lemmas.Iterator.Adapters.{YieldsList-from_vec}
use Rattle.std.proofs.lemmas.Iterator.Consumers.{YieldsList-end}
use Rattle.std.proofs.lemmas.List.{map-append}
use Rattle.std.specs.List.{flat_map}
use Rattle.std.specs.Prelude.{IfOk}
use Rattle.machine_model.specs.Places.{Job}
use Rattle.link_slices.specs.Jobs.{job_of, jobs_of_run}
use Rattle.link_slices.proofs.grouping.runs_of.Goals as goal

pub loop-job-preserved : goal.loop-job-preserved
loop-job-preserved c =
    c.in_ok-run.ensures.jobs
    ∙ ap (λ (l : List Job). l ++ job_of c.in-Some.job ∷ []) c.loop-job.invariant
    ∙ sym (map-append job_of c.loop-job.yielded (c.in-Some.job ∷ []))

pub returns : goal.returns
returns c =
    let end = YieldsList-end (YieldsList-from_vec {s = c.into_iter-job-iterator.result} c.args.jobs.items
    (search rules) (search rules)) c.loop-job.yielded c.loop-job.job-iterator c.loop-job.yielded_by
    c.next.result c.next.new.self c.in-None.is c.next.ensures.steps in
    record {
      jobs = rw (← end.0, map-id) (subst (λ (all : List Job). IfOk c.with_last.result (λ runs. flat_map jobs_of_run runs.items ≡ all))
          c.loop-job.invariant c.with_last.ensures.jobs);
    }

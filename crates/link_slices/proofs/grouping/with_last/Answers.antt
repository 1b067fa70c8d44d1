use Rattle.std.proofs.Common.{List, sym, ap, ◌∙◌, append-nil}
use Rattle.std.specs.List.{flat_map}
use Rattle.link_slices.specs.Jobs.{jobs_of_run}
use Rattle.vc_slice.specs.declared.run.RunJob.{RunJob}
use Rattle.link_slices.proofs.GroupedRuns.{one_run_more}
use Rattle.link_slices.proofs.grouping.with_last.Goals as goal

pub returns-in_ok-push-in-Some : goal.returns-in_ok-push-in-Some
returns-in_ok-push-in-Some c = record {
  jobs = rw c.in-Some.is (ap (λ (l : List RunJob). flat_map jobs_of_run l) c.in_ok-push-in-Some.ensures.items
      ∙ one_run_more c.args.runs.items c.in-Some.run');
}

pub returns-in-None : goal.returns-in-None
returns-in-None c = record { jobs = rw c.in-None.is (sym (append-nil (flat_map jobs_of_run c.args.runs.items))) }

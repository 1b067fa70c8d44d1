use Rattle.std.proofs.Common.{◌≡◌, true, take}
use Rattle.std.specs.List.{list_all}
use Rattle.link_slices.specs.Jobs.{jobs_of_run}
use Rattle.link_window.specs.PictureJobs.{has_job_of}
use Rattle.link_window.proofs.jobs.has_run.Given as goal

abbrev pub invariant-loop-k : goal.invariant-loop-k
invariant-loop-k l = list_all (has_job_of l.book) (take l.k (jobs_of_run l.run)) ≡ true

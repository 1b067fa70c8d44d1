use Rattle.std.proofs.Common.{◌≡◌, [], ◌++◌, map}
use Rattle.std.specs.List.{flat_map}
use Rattle.std.specs.Option.{option_map_or}
use Rattle.link_slices.specs.Jobs.{job_of, jobs_of_run}
use Rattle.link_slices.proofs.grouping.runs_of.Given as goal

abbrev pub invariant-loop-job : goal.invariant-loop-job
invariant-loop-job l = flat_map jobs_of_run l.runs.items ++ option_map_or jobs_of_run l.last [] ≡ map job_of l.yielded

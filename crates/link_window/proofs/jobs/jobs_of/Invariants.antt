use Rattle.std.proofs.Common.{◌≡◌, map}
use Rattle.link_gather.specs.Views.{new_slice_of}
use Rattle.link_slices.specs.Jobs.{job_of}
use Rattle.link_window.specs.PictureJobs.{picture_job}
use Rattle.link_window.proofs.jobs.jobs_of.Given as goal

abbrev pub invariant-loop-slice : goal.invariant-loop-slice
invariant-loop-slice l =
    map job_of l.jobs.items ≡ map (picture_job l.number) (map new_slice_of l.yielded)

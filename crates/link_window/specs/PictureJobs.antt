-- The job of a slice that a picture newly has, and whether a picture has a job's slice.
use Rattle.std.specs.Prelude.{ℕ, Bool, false}
use Rattle.std.specs.Option.{option_map_or}
use Rattle.link_model.specs.Books.{Book, book_plan}
use Rattle.machine_model.specs.Feeding.{is_same_job}
use Rattle.machine_model.specs.Places.{Job}
use Rattle.receiver_model.specs.Exchanging.{book_job}
use Rattle.vc_types.specs.SameValues.{same_parameters}
use Rattle.vc_types.specs.TransformParameters.{Parameters}
use Rattle.link_gather.specs.NewSlices.{PictureSlice}

abbrev pub picture_job : ℕ → PictureSlice → Job
picture_job n slice = record {
  plan = slice.parameters;
  number = n;
  index = slice.index;
  bytes = slice.bytes;
}

-- by its plan and its bytes
abbrev pub has_job_of : Book → Job → Bool
has_job_of book job = option_map_or (is_same_job job) (book_job book job.number job.index) false

abbrev pub has_parameters : Book → Parameters → Bool
has_parameters book p = option_map_or (λ plan. same_parameters p plan.parameters) (book_plan book) false

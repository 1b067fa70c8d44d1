-- What a picture's book says of the picture's slices, and the next picture to be released.
use Rattle.std.specs.Prelude.{◌≡◌, ℕ, Bool, true, not, ◌||◌, is_some, List, Option, Some, None}
use Rattle.std.specs.List.{list_all, range_with_len}
use Rattle.std.specs.Option.{option_and_then, option_map}
use Rattle.link_model.specs.Books.{Book, book_of, book_plan, book_slice, book_whole}
use Rattle.machine_model.specs.Feeders.{SliceAnswer, answer_in}
use Rattle.link_model.specs.Kept.{KeptParameters}
use Rattle.machine_model.specs.Places.{Answered, Job}
use Rattle.link_model.specs.Session.{Part}
use Rattle.vc_types.specs.SequenceHeader.{Sequence}
use Rattle.vc_types.specs.Subbands.{slice_count}

-- it is the book of parts of a picture
pub record IsPictureBook (book : Book) : Type 0 where
  pub sequence : Sequence
  pub parts : List Part
  pub is : book ≡ book_of sequence parts

-- ---- jobs

abbrev pub job_of_slice : KeptParameters → ℕ → ℕ → List ℕ → Job
job_of_slice plan n i bytes = record {
  plan = plan.parameters;
  number = n;
  index = i;
  bytes = bytes;
}

-- the job of a slice that is kept
abbrev pub job_in_book : Book → ℕ → ℕ → Option Job
job_in_book book n i =
    option_and_then (λ plan. option_map (job_of_slice plan n i) (book_slice book i))
    (book_plan book)

-- ---- answers

abbrev pub slice_answer : Answered → SliceAnswer
slice_answer done = record {
  number = done.job.number;
  index = done.job.index;
  answer = done.answer;
}

abbrev pub answers_plan : List SliceAnswer → ℕ → Option KeptParameters → Bool
answers_plan decoded n None = true
answers_plan decoded n (Some plan) =
    list_all (λ i. is_some (answer_in decoded n i))
    (range_with_len 0 (slice_count plan.parameters))

-- each slice has an answer, if each is there
abbrev pub book_ready : List SliceAnswer → ℕ → Book → Bool
book_ready decoded n book =
    not (is_some (book_whole book)) || answers_plan decoded n (book_plan book)

-- The answers to a picture's slices, by what is kept of them: the coefficients of the sound ones,
-- and why the others have none.
use Rattle.std.specs.Prelude.{◌≡◌, ◌==◌, ℕ, Bool, List, [], ◌∷◌, ◌++◌, length, map, slice_index_or}
use Rattle.std.specs.Prelude.{Option, Some, None, Ok, Err, if◌then◌else◌, is_some}
use Rattle.std.specs.List.{range_with_len}
use Rattle.std.specs.Option.{option_map, option_and_then}
use Rattle.receiver_model.specs.Receptions.{Decoding, PictureAnswers, answers_at, no_answers}
use Rattle.picture_build.specs.Kept.{PartPicture, slice_that_came}
use Rattle.vc_types.specs.SameValues.{same_parameters}
use Rattle.vc_types.specs.Slices.{Coefficients}
use Rattle.vc_types.specs.Subbands.{slice_count}
use Rattle.vc_types.specs.TransformParameters.{Parameters}
use Rattle.vc_types.specs.declared.refusal.Unsound.{Unsound}

abbrev pub answer_by : Option Coefficients → Option Unsound → Option Decoding
answer_by (Some coefficients) why = Some (Ok coefficients)
answer_by None why = option_map Err why

-- the answer to a slice
unfoldable pub part_answer : PartPicture → List (Option Unsound) → ℕ → Option Decoding
part_answer part unsound i =
    answer_by (slice_that_came part i) (slice_index_or unsound i None)

abbrev pub part_answers : PartPicture → List (Option Unsound) → List (Option Decoding)
part_answers part unsound =
    map (part_answer part unsound) (range_with_len 0 (slice_count part.parameters))

abbrev pub seen_answers : ℕ → PartPicture → List (Option Unsound) → PictureAnswers
seen_answers n part unsound = record {
  number = n;
  parameters = part.parameters;
  slices = part_answers part unsound;
}

-- each slice has its two entries
pub record HasEntries (part : PartPicture) (unsound : List (Option Unsound)) : Type 0 where
  pub sound_entries : length part.slices ≡ slice_count part.parameters
  pub unsound_entries : length unsound ≡ slice_count part.parameters

-- ---- one picture among others

abbrev pub is_of_number : ℕ → PictureAnswers → Bool
is_of_number n a = a.number == n

-- the pictures, and an empty one of this number where there is none
abbrev pub with_picture : List PictureAnswers → ℕ → Parameters → List PictureAnswers
with_picture answers n p =
    if is_some (answers_at answers n) then answers else answers ++ no_answers n p ∷ []

-- those by these parameters, if there are such
abbrev pub answers_of_plan : Parameters → Option PictureAnswers → Option PictureAnswers
answers_of_plan p kept = option_and_then
    (λ a. if same_parameters a.parameters p then Some a else None) kept

-- What a receiver has (this project's own): the session that stands and its window, the answers to
-- slices that came back, the runs that are out at places, and the counts.
use Rattle.std.specs.Prelude.{ℕ, ◌==◌, Bool, false, if◌then◌else◌, List, [], ◌∷◌, filter, not}
use Rattle.std.specs.Prelude.{is_some, replicate, slice_get, slice_set, Option, Some, None, Result}
use Rattle.std.specs.Option.{option_and_then}
use Rattle.link_model.specs.Judgement.{no_counts}
use Rattle.machine_model.specs.Places.{Answered}
use Rattle.link_model.specs.Session.{Session}
use Rattle.link_model.specs.Windows.{Window}
use Rattle.link_model.specs.declared.tally.Tally.{Tally}
use Rattle.vc_types.specs.Planes.{Planes}
use Rattle.vc_types.specs.SameValues.{same_parameters}
use Rattle.vc_types.specs.Slices.{Coefficients}
use Rattle.vc_types.specs.Subbands.{slice_count}
use Rattle.vc_types.specs.TransformParameters.{Parameters}
use Rattle.vc_types.specs.declared.refusal.Unsound.{Unsound}

-- a session, whether it has had its end, and its window
pub record StandingSession : Type 0 where
  pub session : Session
  pub has_ended : Bool
  pub window : Window

-- what a slice is decoded to
abbrev pub Decoding : Type 0
Decoding = Result Coefficients Unsound

-- a picture's number and parameters, and the answers to its slices in raster order, those that came
pub record PictureAnswers : Type 0 where
  pub number : ℕ
  pub parameters : Parameters
  pub slices : List (Option Decoding)

-- slices of a picture, and the place that they were put into together
pub record RunOut : Type 0 where
  pub number : ℕ
  pub indices : List ℕ
  pub place : ℕ

-- the first field of a frame whose second one isn't released yet
pub record FirstField : Type 0 where
  pub number : ℕ
  pub planes : Planes

-- How many pictures are open at a time; the last session; the counts; the answers of pictures that
-- aren't released; the runs that are out; a first field that waits; whether the input has ended.
pub record Reception : Type 0 where
  pub size : ℕ
  pub standing : Option StandingSession
  pub counts : Tally
  pub answers : List PictureAnswers
  pub out : List RunOut
  pub field : Option FirstField
  pub has_ended : Bool

abbrev pub new_reception : ℕ → Reception
new_reception size = record {
  size = size;
  standing = None;
  counts = no_counts;
  answers = [];
  out = [];
  field = None;
  has_ended = false;
}

-- ---- answers

abbrev pub answers_at : List PictureAnswers → ℕ → Option PictureAnswers
answers_at [] n = None
answers_at (a ∷ rest) n = if a.number == n then Some a else answers_at rest n

abbrev pub answer_at : List (Option Decoding) → ℕ → Option Decoding
answer_at slices i = option_and_then (λ answer. answer) (slice_get slices i)

-- the answer to a slice of a picture
abbrev pub kept_answer : List PictureAnswers → ℕ → ℕ → Option Decoding
kept_answer answers n i = option_and_then (λ a. answer_at a.slices i) (answers_at answers n)

abbrev pub no_answers : ℕ → Parameters → PictureAnswers
no_answers n p = record {
  number = n;
  parameters = p;
  slices = replicate (slice_count p) None;
}

-- none by other parameters is kept
abbrev pub answers_with : PictureAnswers → Answered → PictureAnswers
answers_with a done =
    if same_parameters a.parameters done.job.plan
    then record a { slices = slice_set a.slices done.job.index (Some done.answer) } else a

-- one answer more
abbrev pub keeps_answer : List PictureAnswers → Answered → List PictureAnswers
keeps_answer [] done = answers_with (no_answers done.job.number done.job.plan) done ∷ []
keeps_answer (a ∷ rest) done =
    if a.number == done.job.number then answers_with a done ∷ rest
    else a ∷ keeps_answer rest done

-- of one picture, each of these answers whose slice has none
abbrev pub takes_new : PictureAnswers → List Answered → PictureAnswers
takes_new a [] = a
takes_new a (done ∷ dones) = takes_new
    (if is_some (answer_at a.slices done.job.index) then a else answers_with a done) dones

-- the same of all pictures
abbrev pub keeps_new : List PictureAnswers → List Answered → List PictureAnswers
keeps_new answers [] = answers
keeps_new answers (done ∷ dones) = keeps_new
    (if is_some (kept_answer answers done.job.number done.job.index)
    then answers else keeps_answer answers done)
    dones

-- the answers of all pictures but one
abbrev pub answers_without : List PictureAnswers → ℕ → List PictureAnswers
answers_without answers n = filter (λ a. not (a.number == n)) answers

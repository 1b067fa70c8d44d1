-- Frames by the answers to slices, with the books of a session's window.
use Rattle.std.specs.Prelude.{◌≡◌, ℕ, List, [], Option, Some, Ok}
use Rattle.std.specs.List.{range_with_len}
use Rattle.std.specs.Option.{option_and_then, option_map, option_map_or}
use Rattle.link_core.specs.Hearing.{SessionWindow}
use Rattle.link_model.specs.Books.{Book, book_plan}
use Rattle.machine_model.specs.Feeders.{SliceAnswer, answer_in}
use Rattle.machine_model.specs.Feeding.{frame_of, sound_answers}
use Rattle.link_model.specs.Kept.{KeptParameters}
use Rattle.link_model.specs.Output.{raw_bytes}
use Rattle.link_model.specs.Windows.{Window, book_at}
use Rattle.vc_types.specs.Planes.{Planes, planes_of}
use Rattle.vc_types.specs.SequenceHeader.{Sequence, picture_shape}
use Rattle.vc_types.specs.SliceCoefficients.{AreSliceCoefficients}
use Rattle.vc_types.specs.Slices.{Coefficients}
use Rattle.vc_types.specs.Subbands.{slice_count}

-- the planes of the answers to a picture's slices, if each has one and it is sound
abbrev pub plan_planes : List SliceAnswer → ℕ → KeptParameters → Option Planes
plan_planes decoded n plan =
    option_map (planes_of plan.parameters)
    (sound_answers decoded n (range_with_len 0 (slice_count plan.parameters)))

abbrev pub answered_book_planes : List SliceAnswer → ℕ → Book → Option Planes
answered_book_planes decoded n book = option_and_then (plan_planes decoded n) (book_plan book)

abbrev pub window_planes : List SliceAnswer → Window → ℕ → Option Planes
window_planes decoded w n = option_and_then (answered_book_planes decoded n) (book_at w.books n)

abbrev pub window_frame : List SliceAnswer → SessionWindow → ℕ → Option Planes
window_frame decoded s n = frame_of (window_planes decoded s.window) s.session.sequence n

abbrev pub window_bytes : List SliceAnswer → SessionWindow → ℕ → List ℕ
window_bytes decoded s n = raw_bytes s.session.sequence (window_frame decoded s n)

-- what is written when a picture of one of these sessions is released
abbrev pub sessions_bytes : List SliceAnswer → Option SessionWindow → ℕ → List ℕ
sessions_bytes decoded s n = option_map_or (λ s. window_bytes decoded s n) s []

-- the parameters are of a picture of the sequence, and sound answers are coefficients of its slices
pub record IsAnswered (decoded : List SliceAnswer) (s : Sequence) (n : ℕ) (plan : KeptParameters)
    : Type 0 where
  pub shape : plan.parameters.shape ≡ picture_shape s
  pub sound : (i : ℕ) (c : Coefficients) → answer_in decoded n i ≡ Some (Ok c)
      → AreSliceCoefficients plan.parameters i c

abbrev pub IsAnsweredBook : List SliceAnswer → Sequence → ℕ → Book → Type 0
IsAnsweredBook decoded s n book =
    (plan : KeptParameters) → book_plan book ≡ Some plan → IsAnswered decoded s n plan

abbrev pub HasAnsweredBooks : List SliceAnswer → SessionWindow → Type 0
HasAnsweredBooks decoded s = (n : ℕ) (book : Book) → book_at s.window.books n ≡ Some book
    → IsAnsweredBook decoded s.session.sequence n book

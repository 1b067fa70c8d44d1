-- What happens to what the feeder has. Frames are built of the answers that it got, never of the
-- pictures' bytes.
use Rattle.std.specs.Prelude.{ℕ, ◌-◌, ◌%◌, ◌==◌, Bool, true, false, ◌&&◌, not, if◌then◌else◌, List}
use Rattle.std.specs.Prelude.{[], ◌∷◌, ◌++◌, bytes_eq, Option, Some, None, Result, Ok, Err}
use Rattle.std.specs.Option.{option_and_then, option_map, option_map_or, option_zip}
use Rattle.link_model.specs.Complete.{slice_numbers}
use Rattle.machine_model.specs.Feeders.{SliceAnswer, Feeder, EnteredSession, session_opening, keeps_of}
use Rattle.machine_model.specs.Feeders.{slice_job, answer_in, is_decoded, has_released}
use Rattle.link_model.specs.Kept.{Own}
use Rattle.link_model.specs.Output.{raw_bytes, woven_fields}
use Rattle.machine_model.specs.Places.{Job, Answered, own_answer}
use Rattle.link_model.specs.Session.{sessions_of}
use Rattle.vc_types.specs.Planes.{Planes, planes_of}
use Rattle.vc_types.specs.SameValues.{same_parameters}
use Rattle.vc_types.specs.SequenceHeader.{Sequence}
use Rattle.vc_types.specs.Slices.{Coefficients}
use Rattle.vc_types.specs.declared.refusal.Unsound.{Unsound}

-- ---- datagrams, and the end of the input

abbrev pub hears_datagram : Feeder → List ℕ → Feeder
hears_datagram f datagram = record f { heard = f.heard ++ datagram ∷ [] }

abbrev pub hears_end : Feeder → Feeder
hears_end f = record f { has_ended = true }

-- ---- answers

abbrev pub with_answer : Feeder → Answered → Feeder
with_answer f done = record f {
  decoded = record {
    number = done.job.number;
    index = done.job.index;
    answer = done.answer;
  } ∷ f.decoded;
}

abbrev pub is_same_job : Job → Job → Bool
is_same_job a b =
    same_parameters a.plan b.plan && a.number == b.number && a.index == b.index
    && bytes_eq a.bytes b.bytes

-- the picture isn't released, has the job's plan and keeps the job's bytes
abbrev pub has_job : ℕ → Feeder → Job → Bool
has_job window f job =
    not (has_released f job.number)
    && option_map_or (is_same_job job) (slice_job window f job.number job.index) false

-- A decoded job that is taken back is the answer to its slice, if the picture has that very job and
-- the slice has no answer.
abbrev pub takes_answer : ℕ → Feeder → Answered → Feeder
takes_answer window f done =
    if has_job window f done.job && not (is_decoded f done.job.number done.job.index)
    then with_answer f done else f

-- the feeder decodes a slice that it keeps
abbrev pub redoes_slice : ℕ → Feeder → ℕ → ℕ → Feeder
redoes_slice window f n i =
    option_map_or (λ job. with_answer f (own_answer job)) (slice_job window f n i) f

-- ---- frames

abbrev pub sound_answer : Option (Result Coefficients Unsound) → Option Coefficients
sound_answer None = None
sound_answer (Some (Ok coefficients)) = Some coefficients
sound_answer (Some (Err unsound)) = None

abbrev pub with_first : {X : Type 0} → Option X → Option (List X) → Option (List X)
with_first first rest = option_map (λ found. found.0 ∷ found.1) (option_zip first rest)

-- the answers to slices, if each has one and it is sound
abbrev pub sound_answers : List SliceAnswer → ℕ → List ℕ → Option (List Coefficients)
sound_answers decoded n [] = Some []
sound_answers decoded n (i ∷ is) =
    with_first (sound_answer (answer_in decoded n i)) (sound_answers decoded n is)

-- a picture's planes by the answers to its slices
abbrev pub planes_by : List SliceAnswer → ℕ → Own → Option Planes
planes_by decoded n kept =
    option_map (planes_of kept.plan.parameters) (sound_answers decoded n (slice_numbers kept))

abbrev pub built_planes : List SliceAnswer → EnteredSession → ℕ → Option Planes
built_planes decoded e n = option_and_then (planes_by decoded n) (keeps_of e n)

-- a frame by the number of its last picture, of these planes of pictures
abbrev pub frame_of : (ℕ → Option Planes) → Sequence → ℕ → Option Planes
frame_of planes sequence n =
    if sequence.fields
    then (if n % 2 == 1 then woven_fields sequence.top_first (planes (n - 1)) (planes n) else None)
    else planes n

abbrev pub built_bytes : List SliceAnswer → ℕ → EnteredSession → List ℕ
built_bytes decoded n e = raw_bytes e.sequence (frame_of (built_planes decoded e) e.sequence n)

-- the session of a picture, of what was heard
abbrev pub session_now : ℕ → Feeder → ℕ → Option EnteredSession
session_now window f n = session_opening window (sessions_of f.heard) n

-- a picture is released: where it is the last one of a frame, the frame is written
abbrev pub releases_picture : ℕ → Feeder → ℕ → Feeder
releases_picture window f n = record f {
  released = f.released ++ n ∷ [];
  written = f.written ++ option_map_or (built_bytes f.decoded n) (session_now window f n) [];
}

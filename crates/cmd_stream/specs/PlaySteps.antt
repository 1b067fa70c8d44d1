-- The player between two units: what it keeps of the stream, and what a picture changes.
use Rattle.std.specs.Prelude.{ℕ, ◌+◌, ◌%◌, ◌==◌, if◌then◌else◌, List, [], ◌∷◌, length, Option, Some, None}
use Rattle.std.specs.Option.{option_map}
use Rattle.vc_types.specs.FieldPairs.{woven}
use Rattle.vc_types.specs.Planes.{Planes}
use Rattle.vc_types.specs.SequenceHeader.{Sequence}
use Rattle.vc_types.specs.declared.presentation.Presentation.{Presentation}
use Rattle.cmd_stream.specs.declared.coding.Coding.{Coding}
use Rattle.cmd_stream.specs.Stream.{StreamSoFar, Stream, StreamPicture, is_pair, stream_frames}

-- an even-numbered field waits for the very next picture
abbrev pub waits : StreamPicture → Option StreamPicture
waits p = if p.number % 2 == 0 then Some p else None

abbrev pub next_waiting : Option StreamPicture → StreamPicture → Option StreamPicture
next_waiting None p = waits p
next_waiting (Some earlier) p = if is_pair earlier p then None else waits p

-- the frame that a field completes
abbrev pub completed : Sequence → Option StreamPicture → StreamPicture → List Planes
completed sequence None p = []
completed sequence (Some earlier) p =
    if is_pair earlier p then woven sequence.top_first earlier.planes p.planes ∷ [] else []

-- the frames that a picture brings
abbrev pub new_frames : Sequence → Option StreamPicture → StreamPicture → List Planes
new_frames sequence waiting p =
    if sequence.fields then completed sequence waiting p else p.planes ∷ []

-- what is kept of a stream
pub record PlayState : Type 0 where
  pub coding : Coding
  pub sequence : Sequence
  pub presentation : Presentation
  pub waiting : Option StreamPicture
  pub pictures : ℕ
  pub frames : ℕ

-- a picture more
abbrev pub shown : PlayState → StreamPicture → PlayState
shown k p = record {
  coding = k.coding;
  sequence = k.sequence;
  presentation = k.presentation;
  waiting = if k.sequence.fields then next_waiting k.waiting p else k.waiting;
  pictures = k.pictures + 1;
  frames = k.frames + length (new_frames k.sequence k.waiting p);
}

-- the field at the end of pictures that still waits
unfoldable pub waiting_in : List StreamPicture → Option StreamPicture
waiting_in (a ∷ b ∷ rest) = if is_pair a b then waiting_in rest else waiting_in (b ∷ rest)
waiting_in (a ∷ []) = waits a
waiting_in [] = None

-- what is kept of this stream
abbrev pub stream_state : Stream → PlayState
stream_state s = record {
  coding = s.coding;
  sequence = s.sequence;
  presentation = s.presentation;
  waiting = if s.sequence.fields then waiting_in s.pictures else None;
  pictures = length s.pictures;
  frames = length (stream_frames s);
}

-- what is kept of what came up to now, once a header came
abbrev pub state_so_far : StreamSoFar → Option PlayState
state_so_far h = option_map stream_state h.stream

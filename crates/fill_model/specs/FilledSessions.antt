-- What is written of a list of datagrams where gaps are filled: the frames of each session with repeats, and
-- none from one session to the next.
use Rattle.std.specs.Prelude.{ℕ, ◌/◌, if◌then◌else◌, List, [], ◌∷◌, ◌++◌, Option, Some, None}
use Rattle.std.specs.List.{flat_map}
use Rattle.std.specs.Option.{option_map_or}
use Rattle.link_model.specs.Numbers.{Numbered, opened_numbers}
use Rattle.link_model.specs.Output.{frame_at, raw_bytes, let_go_numbers, entered_behind}
use Rattle.link_model.specs.Session.{HeardSession, sessions_of}
use Rattle.vc_types.specs.Planes.{Planes}
use Rattle.vc_types.specs.SequenceHeader.{Sequence}
use Rattle.fill_model.specs.Filled.{WrittenFrame, filled, last_frame}

-- a frame has the number of its picture or, with field coding, half that of its first field
abbrev pub frame_number : Sequence → ℕ → ℕ
frame_number s n = if s.fields then n / 2 else n

-- the frame of these planes, of which this picture is the last
abbrev pub written_frame : Sequence → ℕ → Option Planes → List WrittenFrame
written_frame s n None = []
written_frame s n (Some planes) =
    record { number = frame_number s n; bytes = raw_bytes s (Some planes) } ∷ []

-- the frame of which a picture is the last, if it is whole
abbrev pub frame_written : Sequence → List Numbered → ℕ → List WrittenFrame
frame_written s es n = written_frame s n (frame_at s es n)

-- ---- of one session

-- all frames, in rising order
unfoldable pub all_written : Sequence → List Numbered → List WrittenFrame
all_written s es = flat_map (frame_written s es) (opened_numbers es)

-- those whose last picture is let go
unfoldable pub written_so_far : ℕ → Sequence → List Numbered → List WrittenFrame
written_so_far window s es = flat_map (frame_written s es) (let_go_numbers window s es)

-- ---- of sessions one after another, the last one first

unfoldable pub all_filled : ℕ → List HeardSession → List ℕ
all_filled window [] = []
all_filled window (h ∷ hs) =
    all_filled window hs
    ++ filled (all_written h.session.sequence (entered_behind window hs h))

abbrev pub last_written : ℕ → List HeardSession → List WrittenFrame
last_written window [] = []
last_written window (h ∷ hs) =
    written_so_far window h.session.sequence (entered_behind window hs h)

abbrev pub filled_before_last : ℕ → List HeardSession → List ℕ
filled_before_last window [] = []
filled_before_last window (h ∷ hs) = all_filled window hs

-- all of those before the last, and those of the last so far
unfoldable pub last_filled : ℕ → List HeardSession → List ℕ
last_filled window hs = filled_before_last window hs ++ filled (last_written window hs)

-- ---- of datagrams

-- once the input has ended
unfoldable pub filled_output : ℕ → List (List ℕ) → List ℕ
filled_output window datagrams = all_filled window (sessions_of datagrams)

-- and before it has
unfoldable pub filled_so_far : ℕ → List (List ℕ) → List ℕ
filled_so_far window datagrams = last_filled window (sessions_of datagrams)

-- the frame of the last session that was written last
abbrev pub frame_written_last : ℕ → List (List ℕ) → Option WrittenFrame
frame_written_last window datagrams = last_frame None (last_written window (sessions_of datagrams))

-- What is written of a list of datagrams: the frames of its pictures, in rising order.
use Rattle.std.specs.Prelude.{◌≡◌, ℕ, ◌+◌, ◌-◌, ◌%◌, ◌==◌, max, Bool, false, ◌||◌, not}
use Rattle.std.specs.Prelude.{if◌then◌else◌, List, [], ◌∷◌, ◌++◌, length, take, take_while, filter}
use Rattle.std.specs.Prelude.{Option, None}
use Rattle.std.specs.List.{flat_map, list_all, range_with_len}
use Rattle.std.specs.Option.{option_map, option_map_or, option_zip}
use Rattle.link_model.specs.Complete.{is_complete, picture_planes}
use Rattle.vc_types.specs.FieldPairs.{woven}
use Rattle.vc_types.specs.RawFrames.{is_wide, frame_bytes}
use Rattle.link_model.specs.Numbers.{Numbered, greatest, base_above, parts_of, entered, is_closed}
use Rattle.link_model.specs.Numbers.{is_opened, opened_numbers, span}
use Rattle.link_model.specs.Session.{HeardSession, sessions_of}
use Rattle.vc_types.specs.Planes.{Planes}
use Rattle.vc_types.specs.SequenceHeader.{Sequence, picture_shape}

-- ---- pictures and frames of what was entered

unfoldable pub complete_at : Sequence → List Numbered → ℕ → Bool
complete_at sequence es n = is_complete sequence (parts_of n es)

unfoldable pub planes_at : Sequence → List Numbered → ℕ → Option Planes
planes_at sequence es n = picture_planes sequence (parts_of n es)

abbrev pub woven_fields : Bool → Option Planes → Option Planes → Option Planes
woven_fields top_first earlier later =
    option_map (λ fields. woven top_first fields.0 fields.1) (option_zip earlier later)

-- the frame of two fields of neighbouring numbers, of which the even one is earlier
abbrev pub field_frame_at : Sequence → List Numbered → ℕ → Option Planes
field_frame_at sequence es n =
    if n % 2 == 1
    then woven_fields sequence.top_first (planes_at sequence es (n - 1)) (planes_at sequence es n)
    else None

-- A frame by the number of its last picture. There is none where a picture of it isn't complete and
-- sound.
unfoldable pub frame_at : Sequence → List Numbered → ℕ → Option Planes
frame_at sequence es n =
    if sequence.fields then field_frame_at sequence es n else planes_at sequence es n

-- the raw bytes of a frame, none where there is no such frame
abbrev pub raw_bytes : Sequence → Option Planes → List ℕ
raw_bytes sequence frame =
    option_map_or (λ planes. frame_bytes planes (is_wide (picture_shape sequence))) frame []

unfoldable pub frame_bytes_at : Sequence → List Numbered → ℕ → List ℕ
frame_bytes_at sequence es n = raw_bytes sequence (frame_at sequence es n)

-- ---- when a picture is let go: it is closed, or all pictures up to it that aren't are complete

abbrev pub unclosed_up_to : ℕ → List Numbered → ℕ → List ℕ
unclosed_up_to window es n = span (greatest es + 1 - window) n

unfoldable pub is_let_go : ℕ → Sequence → List Numbered → ℕ → Bool
is_let_go window sequence es n = list_all (complete_at sequence es) (unclosed_up_to window es n)

-- the pictures that are let go, in rising order
unfoldable pub let_go_numbers : ℕ → Sequence → List Numbered → List ℕ
let_go_numbers window sequence es = filter (is_let_go window sequence es) (opened_numbers es)

-- ---- what is written

-- all frames, in rising order
unfoldable pub all_frames : Sequence → List Numbered → List ℕ
all_frames sequence es = flat_map (frame_bytes_at sequence es) (opened_numbers es)

-- the frames whose last picture is let go, in rising order
unfoldable pub frames_so_far : ℕ → Sequence → List Numbered → List ℕ
frames_so_far window sequence es =
    flat_map (frame_bytes_at sequence es) (let_go_numbers window sequence es)

-- ---- sessions one after another, the last one first

-- the greatest number of their pictures
unfoldable pub greatest_of : ℕ → List HeardSession → ℕ
greatest_of window [] = 0
greatest_of window (h ∷ hs) =
    let before = greatest_of window hs in
    max (greatest (entered (base_above before) window h.fragments)) before

-- where the numbers of the next session begin
abbrev pub base_behind : ℕ → List HeardSession → ℕ
base_behind window hs = base_above (greatest_of window hs)

-- what was entered of a session after others
abbrev pub entered_behind : ℕ → List HeardSession → HeardSession → List Numbered
entered_behind window hs h = entered (base_behind window hs) window h.fragments

-- all their frames, by session and then by number
unfoldable pub all_output : ℕ → List HeardSession → List ℕ
all_output window [] = []
all_output window (h ∷ hs) =
    all_output window hs ++ all_frames h.session.sequence (entered_behind window hs h)

-- all of those before the last, and those of the last so far
unfoldable pub last_so_far : ℕ → List HeardSession → List ℕ
last_so_far window [] = []
last_so_far window (h ∷ hs) =
    all_output window hs ++ frames_so_far window h.session.sequence (entered_behind window hs h)

-- what is written of datagrams once the input has ended
unfoldable pub full_output : ℕ → List (List ℕ) → List ℕ
full_output window datagrams = all_output window (sessions_of datagrams)

-- and before it has
unfoldable pub output_so_far : ℕ → List (List ℕ) → List ℕ
output_so_far window datagrams = last_so_far window (sessions_of datagrams)

-- ---- the place at which a picture closes

-- a picture is opened in one of the sessions
abbrev pub is_opened_in : ℕ → List HeardSession → ℕ → Bool
is_opened_in window [] n = false
is_opened_in window (h ∷ hs) n =
    is_opened (entered_behind window hs h) n || is_opened_in window hs n

-- a picture is closed by a later one of its session, or by the next session
abbrev pub is_closed_in : ℕ → List HeardSession → ℕ → Bool
is_closed_in window [] n = false
is_closed_in window (h ∷ hs) n =
    is_opened_in window hs n || is_closed window (entered_behind window hs h) n

abbrev pub is_closed_behind : ℕ → List (List ℕ) → ℕ → ℕ → Bool
is_closed_behind window datagrams n k = is_closed_in window (sessions_of (take (k + 1) datagrams)) n

abbrev pub datagram_places : List (List ℕ) → List ℕ
datagram_places datagrams = range_with_len 0 (length datagrams)

-- the first place after which a picture is closed, or the length of the list
unfoldable pub closing_place : ℕ → List (List ℕ) → ℕ → ℕ
closing_place window datagrams n =
    length (take_while
    (λ k. not (is_closed_behind window datagrams n k)) (datagram_places datagrams))

-- ---- how it grows

-- the one begins the other
abbrev pub IsPrefixOf : List ℕ → List ℕ → Type 0
IsPrefixOf front all = (rest : List ℕ) × (all ≡ front ++ rest)

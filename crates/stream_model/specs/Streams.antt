-- The elementary stream of a list of datagrams (this project's own): of the first session the
-- header, the pictures of the frames that are written, and an end of sequence.
use Rattle.std.specs.Prelude.{ℕ, ◌-◌, is_some, if◌then◌else◌, List, [], ◌∷◌, ◌++◌, map, take}
use Rattle.std.specs.Prelude.{Result, Ok, Err, unwrap_or}
use Rattle.std.specs.List.{flat_map}
use Rattle.byteorder.specs.Endian.{big_bytes}
use Rattle.link_model.specs.Complete.{whole_picture}
use Rattle.link_model.specs.Numbers.{Numbered, parts_of, opened_numbers}
use Rattle.link_model.specs.Output.{frame_at, let_go_numbers, entered_behind}
use Rattle.link_model.specs.Packets.{PayloadValue, Header}
use Rattle.link_model.specs.Session.{Received, DatagramRefusal, HeardSession}
use Rattle.link_model.specs.Session.{received, begins, sessions_of}
use Rattle.vc_types.specs.DataUnits.{DataUnit, unit_length, unit_bytes}
use Rattle.vc_types.specs.ParseCodes.{header_code, picture_code, end_code}
use Rattle.vc_types.specs.SequenceHeader.{Sequence, coded_header}
use Rattle.vc_types.specs.declared.refusal.HeaderRefusal.{HeaderRefusal}

-- ---- units one after another

-- their bytes, after a unit of so many bytes, 0 where the first of them is the first of all
unfoldable pub units_behind : ℕ → List DataUnit → List ℕ
units_behind previous [] = []
units_behind previous (u ∷ units) =
    unit_bytes u.code u.body previous ++ units_behind (unit_length u) units

-- the length of the last of them, or of the unit before
unfoldable pub last_length : ℕ → List DataUnit → ℕ
last_length previous [] = previous
last_length previous (u ∷ units) = last_length (unit_length u) units

-- ---- the units of a stream

abbrev pub header_unit : List ℕ → DataUnit
header_unit header = record { code = header_code; body = header }

abbrev pub end_unit : DataUnit
end_unit = record { code = end_code; body = [] }

-- a picture: the low 32 bits of its number, and its whole bytes
abbrev pub picture_unit : ℕ → List ℕ → DataUnit
picture_unit n whole = record { code = picture_code; body = big_bytes 4 n ++ whole }

-- pictures after their header; without pictures there is nothing
abbrev pub behind_header : List ℕ → List DataUnit → List DataUnit
behind_header header [] = []
behind_header header (u ∷ pictures) = header_unit header ∷ u ∷ pictures

-- an end of sequence after a stream's units, if there are any
abbrev pub with_end : List DataUnit → List DataUnit
with_end [] = []
with_end (u ∷ units) = (u ∷ units) ++ end_unit ∷ []

-- ---- the pictures of frames

abbrev pub picture_unit_at : Sequence → List Numbered → ℕ → DataUnit
picture_unit_at s es n = picture_unit n (unwrap_or (whole_picture s (parts_of n es)) [])

-- the pictures of a frame, by the number of its last one
abbrev pub frame_pictures : Sequence → ℕ → List ℕ
frame_pictures s n = if s.fields then (n - 1) ∷ n ∷ [] else n ∷ []

-- their units, none where there is no such frame
unfoldable pub frame_units : Sequence → List Numbered → ℕ → List DataUnit
frame_units s es n =
    if is_some (frame_at s es n) then map (picture_unit_at s es) (frame_pictures s n) else []

-- ---- the header of the first session

-- the bytes that a sequence header takes
abbrev pub used_bytes : List ℕ → Result (Sequence × ℕ) HeaderRefusal → List ℕ
used_bytes body (Ok read) = take read.1 body
used_bytes body (Err refusal) = []

abbrev pub header_of_payload : PayloadValue → List ℕ
header_of_payload (Header high from body) = used_bytes body (coded_header body)
header_of_payload other = []

abbrev pub header_of_received : Result Received DatagramRefusal → List ℕ
header_of_received (Ok r) = header_of_payload r.value
header_of_received (Err refusal) = []

-- the bytes of the sequence header in a datagram that begins a session
unfoldable pub header_in : List ℕ → List ℕ
header_in datagram = header_of_received (received datagram)

-- of the first datagram that begins one
unfoldable pub first_header : List (List ℕ) → List ℕ
first_header [] = []
first_header (d ∷ datagrams) = if is_some (begins d) then header_in d else first_header datagrams

-- ---- the pictures of the first session, where the last session comes first

-- of all its frames
unfoldable pub first_pictures : ℕ → List HeardSession → List DataUnit
first_pictures window [] = []
first_pictures window (h ∷ []) =
    let es = entered_behind window [] h in
    flat_map (frame_units h.session.sequence es) (opened_numbers es)
first_pictures window (h ∷ g ∷ hs) = first_pictures window (g ∷ hs)

-- of those that are let go, which is each of them once the next session has opened
unfoldable pub first_pictures_so_far : ℕ → List HeardSession → List DataUnit
first_pictures_so_far window [] = []
first_pictures_so_far window (h ∷ []) =
    let es = entered_behind window [] h in
    let s = h.session.sequence in
    flat_map (frame_units s es) (let_go_numbers window s es)
first_pictures_so_far window (h ∷ g ∷ hs) = first_pictures window (g ∷ hs)

-- ---- the stream

abbrev pub stream_units : ℕ → List (List ℕ) → List DataUnit
stream_units window datagrams = with_end
    (behind_header (first_header datagrams) (first_pictures window (sessions_of datagrams)))

abbrev pub units_so_far : ℕ → List (List ℕ) → List DataUnit
units_so_far window datagrams =
    behind_header (first_header datagrams) (first_pictures_so_far window (sessions_of datagrams))

-- the stream of datagrams, once the input has ended
unfoldable pub stream_of : ℕ → List (List ℕ) → List ℕ
stream_of window datagrams = units_behind 0 (stream_units window datagrams)

-- and what there is of it before, without the end of sequence
unfoldable pub stream_so_far : ℕ → List (List ℕ) → List ℕ
stream_so_far window datagrams = units_behind 0 (units_so_far window datagrams)

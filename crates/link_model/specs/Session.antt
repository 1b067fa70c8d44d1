-- A list of datagrams taken apart: what each datagram is, the sessions that sequence headers open
-- one after another, and the fragments of pictures that belong to each (this project's profile of
-- RFC 8450).
use Rattle.std.specs.Prelude.{ℕ, Bool, true, false, ◌&&◌, ◌||◌, not, ◌==◌, if◌then◌else◌, List, []}
use Rattle.std.specs.Prelude.{◌∷◌, ◌++◌, slice_range, filter_map, fold, Option, Some, None, Result}
use Rattle.std.specs.Prelude.{Ok, Err}
use Rattle.std.specs.Option.{option_map_or}
use Rattle.vc_types.specs.SameValues.{same_sequence}
use Rattle.link_model.specs.Packets.{PayloadValue, Header, End, Params, Slices, FragmentHead}
use Rattle.link_model.specs.Packets.{RtpPacket, rtp_packet, payload}
use Rattle.link_model.specs.declared.refusal.PayloadRefusal.{PayloadRefusal}
use Rattle.link_model.specs.declared.refusal.RtpRefusal.{RtpRefusal}
use Rattle.vc_types.specs.SequenceHeader.{Sequence, coded_whole_header_of, high_quality_profile}
use Rattle.vc_types.specs.declared.presentation.Presentation.{Presentation}
use Rattle.vc_types.specs.declared.refusal.HeaderRefusal.{HeaderRefusal}

-- ---- one datagram

-- the source of a datagram, and its payload
pub record Received : Type 0 where
  pub ssrc : ℕ
  pub value : PayloadValue

-- why a datagram isn't read: as a packet, or its payload
pub data DatagramRefusal : Type 0 where
  OfRtp : (refusal : RtpRefusal) → DatagramRefusal
  OfPayload : (refusal : PayloadRefusal) → DatagramRefusal

abbrev pub of_payload : ℕ → Result PayloadValue PayloadRefusal → Result Received DatagramRefusal
of_payload ssrc (Ok value) = Ok (record { ssrc = ssrc; value = value })
of_payload ssrc (Err refusal) = Err (OfPayload refusal)

abbrev pub of_packet : List ℕ → Result RtpPacket RtpRefusal → Result Received DatagramRefusal
of_packet datagram (Ok packet) =
    of_payload packet.ssrc (payload (slice_range datagram packet.from packet.to))
of_packet datagram (Err refusal) = Err (OfRtp refusal)

-- what a datagram is, or the first refusal
unfoldable pub received : List ℕ → Result Received DatagramRefusal
received datagram = of_packet datagram (rtp_packet datagram)

-- ---- the session

-- whose datagrams count, the sequence of their pictures, and what the header that began the session
-- says of how its frames are shown
pub record Session : Type 0 where
  pub ssrc : ℕ
  pub sequence : Sequence
  pub presentation : Presentation

abbrev pub session_with : ℕ → Result ((Sequence × Presentation) × ℕ) HeaderRefusal → Option Session
session_with ssrc (Ok read) =
    Some (record { ssrc = ssrc; sequence = read.0.0; presentation = read.0.1 })
session_with ssrc (Err refusal) = None

-- a sequence header that is accepted begins a session, nothing else does
abbrev pub session_by : ℕ → PayloadValue → Option Session
session_by ssrc (Header high from body) =
    session_with ssrc (coded_whole_header_of high_quality_profile body)
session_by ssrc other = None

abbrev pub session_from : Result Received DatagramRefusal → Option Session
session_from (Ok r) = session_by r.ssrc r.value
session_from (Err refusal) = None

-- the session that a datagram begins
unfoldable pub begins : List ℕ → Option Session
begins datagram = session_from (received datagram)

-- ---- fragments

-- slices as they were sent: so many from column x and row y on
pub record SlicePart : Type 0 where
  pub prefix : ℕ
  pub scaler : ℕ
  pub count : ℕ
  pub x : ℕ
  pub y : ℕ
  pub body : List ℕ

-- what a fragment has of its picture: transform parameters or slices
pub data Part : Type 0 where
  ParamsPart : (body : List ℕ) → Part
  SlicesPart : (slices : SlicePart) → Part

-- a part, with the 32 bits of its picture's number
pub record Fragment : Type 0 where
  pub number : ℕ
  pub part : Part

abbrev pub params_fragment : FragmentHead → List ℕ → Fragment
params_fragment head body = record { number = head.number; part = ParamsPart body }

abbrev pub slice_part : FragmentHead → ℕ → ℕ → ℕ → List ℕ → SlicePart
slice_part head count x y body = record {
  prefix = head.prefix;
  scaler = head.scaler;
  count = count;
  x = x;
  y = y;
  body = body;
}

abbrev pub slices_fragment : FragmentHead → ℕ → ℕ → ℕ → List ℕ → Fragment
slices_fragment head count x y body = record {
  number = head.number;
  part = SlicesPart (slice_part head count x y body);
}

abbrev pub fragment_by : PayloadValue → Option Fragment
fragment_by (Params head from body) = Some (params_fragment head body)
fragment_by (Slices head count x y from body) = Some (slices_fragment head count x y body)
fragment_by other = None

abbrev pub fragment_from : Session → Result Received DatagramRefusal → Option Fragment
fragment_from s (Ok r) = if r.ssrc == s.ssrc then fragment_by r.value else None
fragment_from s (Err refusal) = None

-- the fragment in a datagram of the session's source
unfoldable pub fragment_in : Session → List ℕ → Option Fragment
fragment_in s datagram = fragment_from s (received datagram)

-- ---- the end

abbrev pub is_end : PayloadValue → Bool
is_end (End high) = true
is_end other = false

abbrev pub end_from : Session → Result Received DatagramRefusal → Bool
end_from s (Ok r) = r.ssrc == s.ssrc && is_end r.value
end_from s (Err refusal) = false

-- an end of sequence of the session's source
unfoldable pub ends : Session → List ℕ → Bool
ends s datagram = end_from s (received datagram)

-- ---- the whole list

-- a session, whether it has had its end, and the fragments that count: those after the datagram
-- that opens it, up to the one that opens the next
pub record HeardSession : Type 0 where
  pub session : Session
  pub has_ended : Bool
  pub fragments : List Fragment

abbrev pub just_opened : Session → HeardSession
just_opened s = record { session = s; has_ended = false; fragments = [] }

-- another source, or a header of another value, of which the presentation is no part
abbrev pub is_other : Session → Session → Bool
is_other s t = not (s.ssrc == t.ssrc && same_sequence s.sequence t.sequence)

-- a datagram that opens a session other than this one, once this one has ended
abbrev pub opens_other : Session → List ℕ → Bool
opens_other s datagram = option_map_or (is_other s) (begins datagram) false

-- the session that a header opens while one stands: another, once the one that stands has ended
abbrev pub opens_over : Session → Bool → Option Session → Option Session
opens_over s has_ended None = None
opens_over s has_ended (Some t) = if has_ended && is_other s t then Some t else None

abbrev pub opens_behind : HeardSession → Option Session → Option Session
opens_behind h o = opens_over h.session h.has_ended o

-- the session that a header opens after others, the last of them first: the first one any, a later
-- one where the last has ended and it is another
abbrev pub opens_next : List HeardSession → Option Session → Option Session
opens_next [] o = o
opens_next (h ∷ hs) o = opens_behind h o

abbrev pub with_datagram : HeardSession → List ℕ → HeardSession
with_datagram h datagram = record {
  session = h.session;
  has_ended = h.has_ended || ends h.session datagram;
  fragments = h.fragments ++ filter_map (fragment_in h.session) (datagram ∷ []);
}

abbrev pub last_with : List HeardSession → List ℕ → List HeardSession
last_with [] datagram = []
last_with (h ∷ hs) datagram = with_datagram h datagram ∷ hs

-- a datagram more: it opens the next session, or belongs to the last
unfoldable pub hears : List HeardSession → List ℕ → List HeardSession
hears hs datagram =
    option_map_or (λ s. just_opened s ∷ hs) (opens_next hs (begins datagram))
    (last_with hs datagram)

-- the sessions of datagrams, the last one first
abbrev pub sessions_of : List (List ℕ) → List HeardSession
sessions_of datagrams = fold hears [] datagrams

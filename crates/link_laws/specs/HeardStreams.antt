-- What a receiver hears of a sender's stream, and what is there in time.
use Rattle.std.specs.Prelude.{◌≡◌, ◌<◌, ◌≤◌, ℕ, ◌+◌, ◌%◌, ◌^◌, ◌==◌, Bool, true, false, ◌&&◌, List}
use Rattle.std.specs.Prelude.{[], ◌∷◌, length, take, slice_get, Some, Ok}
use Rattle.std.specs.List.{Contains, count_by}
use Rattle.link_model.specs.Kept.{SliceRun, waiting_limit}
use Rattle.link_model.specs.Numbers.{Numbered, is_opened}
use Rattle.link_model.specs.Output.{closing_place, entered_behind}
use Rattle.link_model.specs.Sending.{ParametersContent, SlicesContent, frames_outgoing}
use Rattle.link_model.specs.Sending.{number_bits, outgoing, sent_datagram}
use Rattle.link_model.specs.SendingPictures.{sent_sequence}
use Rattle.link_model.specs.Session.{Fragment, HeardSession, ParamsPart, Part, Received, SlicesPart}
use Rattle.link_model.specs.Session.{received, sessions_of}
use Rattle.vc_types.specs.Planes.{Planes}
use Rattle.vc_types.specs.SenderSettings.{Sending}

-- ---- whose datagrams they are

-- One session is heard of datagrams. It is the sender's, and after the header that opens it each
-- datagram that is read and is of its source is one of the stream that was sent. Before that header
-- anything may come that opens no session, as a stray fragment of the same source.
pub record IsHeardOf (s : Sending) (stream datagrams : List (List ℕ)) (h : HeardSession)
    : Type 0 where
  pub one : sessions_of datagrams ≡ h ∷ []
  pub ssrc : h.session.ssrc ≡ s.ssrc
  pub sequence : h.session.sequence ≡ sent_sequence s
  pub sent : (place : ℕ) (datagram : List ℕ) (r : Received)
      → slice_get datagrams place ≡ Some datagram → 1 ≤ length (sessions_of (take place datagrams))
      → received datagram ≡ Ok r → r.ssrc ≡ s.ssrc → Contains stream datagram

-- what was entered of the only session
abbrev pub entered_of : ℕ → HeardSession → List Numbered
entered_of window h = entered_behind window [] h

-- the number that a receiver gives a picture: it is opened, and has the picture's 32 bits
pub record IsNumberOf (s : Sending) (es : List Numbered) (picture number : ℕ) : Type 0 where
  pub opened : is_opened es number ≡ true
  pub bits : number % 2 ^ 32 ≡ number_bits s picture

-- ---- what is there in time

-- a datagram stands after the one that opens the session, and before the close of a picture
pub record IsInTime (window : ℕ) (datagrams : List (List ℕ)) (number : ℕ) (datagram : List ℕ)
    (place : ℕ) : Type 0 where
  pub at : slice_get datagrams place ≡ Some datagram
  pub behind : 1 ≤ length (sessions_of (take place datagrams))
  pub before : place < closing_place window datagrams number

abbrev pub has_slices : Part → Bool
has_slices (ParamsPart body) = false
has_slices (SlicesPart slices) = true

-- a fragment has slices of the pictures whose number has these 32 bits
abbrev pub is_slices_of : ℕ → Fragment → Bool
is_slices_of bits f = f.number == bits && has_slices f.part

-- how many of them are heard of the session that stands, from the datagram that opens it on
abbrev pub slices_heard : ℕ → List HeardSession → ℕ
slices_heard bits [] = 0
slices_heard bits (h ∷ hs) = count_by (is_slices_of bits) h.fragments

-- All datagrams with a picture's parameters or slices are there in time, the parameters after at
-- most as many of the session's datagrams with its slices as wait for them.
pub record IsHeardInTime (window : ℕ) (s : Sending) (indices : List ℕ) (frames : List Planes)
    (datagrams : List (List ℕ)) (picture number : ℕ) : Type 0 where
  pub slices : (k : ℕ) (run : SliceRun)
      → slice_get (frames_outgoing s indices frames) k ≡ Some (outgoing picture (SlicesContent run))
      → (place : ℕ) × IsInTime window datagrams number
      (sent_datagram s (s.seq + k) (outgoing picture (SlicesContent run))) place
  pub parameters : (k : ℕ)
      → slice_get (frames_outgoing s indices frames) k ≡ Some (outgoing picture ParametersContent)
      → (place : ℕ) × IsInTime window datagrams number
      (sent_datagram s (s.seq + k) (outgoing picture ParametersContent)) place
      × (slices_heard (number_bits s picture) (sessions_of (take place datagrams)) ≤ waiting_limit)

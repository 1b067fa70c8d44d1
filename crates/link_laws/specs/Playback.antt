-- What playing the elementary stream of datagrams gives: the frames of their first session.
use Rattle.std.specs.Prelude.{◌≡◌, ◌≤◌, ℕ, All, List, [], ◌∷◌, length}
use Rattle.link_model.specs.Output.{IsPrefixOf, all_output, full_output}
use Rattle.link_model.specs.Session.{HeardSession, sessions_of}
use Rattle.stream_model.specs.Streams.{stream_of, stream_units}
use Rattle.cmd_stream.specs.Playing.{IsPlayable, frames_due, so_far, unit_split}
use Rattle.cmd_stream.specs.Stream.{unpaired_in}
use Rattle.vc_types.specs.DataUnits.{DataUnit, unit_length}

-- ---- the first session

-- what is written of the first session alone, where the last session comes first
unfoldable pub first_output : ℕ → List HeardSession → List ℕ
first_output window [] = []
first_output window (h ∷ []) = all_output window (h ∷ [])
first_output window (h ∷ g ∷ hs) = first_output window (g ∷ hs)

abbrev pub first_session_output : ℕ → List (List ℕ) → List ℕ
first_session_output window datagrams = first_output window (sessions_of datagrams)

-- ---- a stream that is played

-- each unit has a length that may be told, and there are no more of them than may be read
pub record AreReadable (packets : ℕ) (units : List DataUnit) : Type 0 where
  pub lengths : All (λ u. unit_length u ≤ 268435456) units
  pub few : length units ≤ packets

-- a stream is played to its end, none of its units is refused, each field has its partner, and
-- these bytes are written
pub record IsPlayedTo (packets : ℕ) (stream bytes : List ℕ) : Type 0 where
  pub playable : IsPlayable packets stream
  pub written : frames_due (unit_split packets stream) ≡ bytes
  pub paired : unpaired_in (so_far (unit_split packets stream)).stream ≡ 0

-- ---- the laws

-- The elementary stream of datagrams is played to the frames of their first session, up to
-- `packets` units.
abbrev pub StreamsArePlayedBack : Type 0
StreamsArePlayedBack = (window packets : ℕ) (datagrams : List (List ℕ))
    → AreReadable packets (stream_units window datagrams)
    → IsPlayedTo packets (stream_of window datagrams) (first_session_output window datagrams)

-- These begin what is written of the datagrams,
abbrev pub FirstSessionsBeginOutput : Type 0
FirstSessionsBeginOutput = (window : ℕ) (datagrams : List (List ℕ))
    → IsPrefixOf (first_session_output window datagrams) (full_output window datagrams)

-- and where there is one session at most, they are all of it.
abbrev pub OneSessionIsAll : Type 0
OneSessionIsAll = (window : ℕ) (datagrams : List (List ℕ))
    → length (sessions_of datagrams) ≤ 1
    → full_output window datagrams ≡ first_session_output window datagrams

-- What replaying a capture to an address did, by how it ended.
use Rattle.std.specs.Prelude.{◌≡◌, ◌⊎◌, ◌≤◌, ◌<◌, ℕ, List, [], ◌∷◌, ◌++◌, length, take, sum_by, Some, ⊤}
use Rattle.link_hearing.specs.Capture.{CaptureSplit, HasEnded, IsWholeCapture, ReadingEnded, capture_split}
use Rattle.link_outside.specs.Outlets.{capture_of}
use Rattle.link_outside.specs.Passing.{Passes}
use Rattle.link_report.specs.declared.answer.Answer.{Answer}
use Rattle.link_report.specs.declared.answer.Answer.TheVariants.{Done, Stopped, Drained}
use Rattle.link_report.specs.declared.ending.Ending.TheVariants.{InputFailed, NoMemory}
use Rattle.link_report.specs.declared.ending.Ending.TheVariants.{StreamBad, WireFailed}
use Rattle.link_report.specs.declared.summary.Summary.{Summary}
use Rattle.link_report.specs.declared.summary.Summary.TheVariants.{Replayed}
use Rattle.vc_ports.specs.Changes.{InputChange, WireChange, HasRisen, Stays, Took}
use Rattle.vc_ports.specs.Wires.{aiming}

-- ---- the wire

-- it was aimed at the address, and then these datagrams were sent to it; nothing else was done to it
abbrev pub SentTo : List ℕ → WireChange → List (List ℕ) → Type 0
SentTo to wire sent = Passes (aiming wire.told.before to) wire.told.after sent []

-- these were sent, and these are the counts
pub record IsReplayed
    (to : List ℕ) (summary : Summary) (wire : WireChange) (sent : List (List ℕ)) : Type 0 where
  pub went : SentTo to wire sent
  pub summary_is : summary ≡ Replayed (length sent) (sum_by length sent)

-- ---- the ways in which it ends

-- the last entry, which begins at a place, is longer than a datagram may be; the others were sent
pub record EndsTooLong
    (to : List ℕ) (place : ℕ) (summary : Summary) (wire : WireChange) (s : CaptureSplit) : Type 0
  where
    pub others : List (List ℕ)
    pub last : List ℕ
    pub datagrams_are : s.datagrams ≡ others ++ last ∷ []
    pub too_long : 65507 < length last
    pub begins : place ≡ length (capture_of others)
    pub replayed : IsReplayed to summary wire others

-- all were sent, but perhaps the last, for which there was no memory
pub record RanOutOfMemory (to : List ℕ) (wire : WireChange) (s : CaptureSplit) : Type 0 where
  pub most : List (List ℕ)
  pub lost : List (List ℕ)
  pub datagrams_are : s.datagrams ≡ most ++ lost
  pub few : length lost ≤ 1
  pub went : SentTo to wire most

-- a send failed, and the first of them were sent
pub record CouldNotSend (to : List ℕ) (wire : WireChange) (s : CaptureSplit) : Type 0 where
  pub count : ℕ
  pub within : count ≤ length s.datagrams
  pub went : SentTo to wire (take count s.datagrams)

-- it couldn't be aimed; nothing was read, and nothing is otherwise with the wire
pub record CouldNotAim (input : InputChange) (wire : WireChange) : Type 0 where
  pub unread : Stays input.left
  pub sound : Stays input.faults
  pub untouched : Stays wire.told

abbrev pub ReplayEnded : (packets : ℕ) → List ℕ → Answer → InputChange → WireChange → CaptureSplit
    → Type 0
ReplayEnded packets to (Done summary) input wire s =
    HasEnded input s × IsReplayed to summary wire s.datagrams
ReplayEnded packets to (Drained summary (StreamBad place)) input wire s =
    EndsTooLong to place summary wire s
ReplayEnded packets to (Drained summary end) input wire s =
    ReadingEnded packets (Some end) input s × IsReplayed to summary wire s.datagrams
ReplayEnded packets to (Stopped NoMemory) input wire s = RanOutOfMemory to wire s
ReplayEnded packets to (Stopped WireFailed) input wire s =
    CouldNotSend to wire s ⊎ CouldNotAim input wire
ReplayEnded packets to answer input wire s = ⊥

-- ---- the whole

-- a read failed
abbrev pub has_failed_input : Answer → Type 0
has_failed_input answer = (summary : Summary) × (answer ≡ Drained summary InputFailed)

-- sending the datagrams of the entries, at most so many, that the input gave to an address
pub record Replays
    (packets : ℕ) (to : List ℕ) (answer : Answer) (input : InputChange) (wire : WireChange)
    : Type 0 where
  pub given : List ℕ
  pub took : Took input given
  pub ended : ReplayEnded packets to answer input wire (capture_split packets given)
  pub input_failed : has_failed_input answer → HasRisen input.faults
  pub wire_failed : answer ≡ Stopped WireFailed → HasRisen wire.faults

-- each can be sent
abbrev pub AreShort : List (List ℕ) → Type 0
AreShort [] = ⊤
AreShort (datagram ∷ rest) = (length datagram ≤ 65507) × AreShort rest

-- at most so many entries are the whole of the bytes, and each of them can be sent
pub record IsReplayable (packets : ℕ) (bytes : List ℕ) : Type 0 where
  pub whole : IsWholeCapture packets bytes
  pub short : AreShort (capture_split packets bytes).datagrams

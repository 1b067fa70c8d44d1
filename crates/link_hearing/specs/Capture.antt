-- What the input gave, as a capture's entries, and how reading them ended.
use Rattle.std.specs.Prelude.{◌≡◌, ◌≢◌, ◌⊎◌, ℕ, ◌+◌, ◌<◌, List, [], length, Option, None, Some}
use Rattle.link_capture.specs.Capture.{first_entry, entries_within}
use Rattle.link_report.specs.declared.ending.Ending.{Ending}
use Rattle.link_report.specs.declared.ending.Ending.TheVariants.{InputFailed, CaptureCut, PacketLimit}
use Rattle.vc_ports.specs.Changes.{InputChange}
use Rattle.vc_ports.specs.Reading.{IsAtEnd}

-- the datagrams of the whole entries that begin the bytes, at most `packets`, the rest, and its
-- place
pub record CaptureSplit : Type 0 where
  pub datagrams : List (List ℕ)
  pub rest : List ℕ
  pub given : List ℕ

abbrev pub capture_split : ℕ → List ℕ → CaptureSplit
capture_split packets given = record {
  datagrams = (entries_within packets given).0;
  rest = (entries_within packets given).1;
  given = given;
}

-- ---- the ways in which reading ends

-- to the end of the input, at an entry's edge
pub record HasEnded (input : InputChange) (s : CaptureSplit) : Type 0 where
  pub no_rest : s.rest ≡ []
  pub ended : IsAtEnd input.left.after

-- to the end of the input, within the entry that begins at a place
pub record IsCut (packets : ℕ) (input : InputChange) (s : CaptureSplit) (place : ℕ) : Type 0 where
  pub wanted : length s.datagrams < packets
  pub part : s.rest ≢ []
  pub ended : IsAtEnd input.left.after
  pub begins : length s.given ≡ place + length s.rest

-- a read failed, where an entry more was asked for, or a byte behind as many as were asked for
pub record CouldNotRead (packets : ℕ) (s : CaptureSplit) : Type 0 where
  pub short : first_entry s.rest ≡ None
  pub wanted : (length s.datagrams < packets) ⊎ (s.rest ≡ [])

-- so many entries were read, and then one byte more
pub record IsPastLimit (packets : ℕ) (s : CaptureSplit) (limit : ℕ) : Type 0 where
  pub limit_is : limit ≡ packets
  pub count : length s.datagrams ≡ packets
  pub one_more : length s.rest ≡ 1

abbrev pub ReadingEnded : ℕ → Option Ending → InputChange → CaptureSplit → Type 0
ReadingEnded packets None input s = HasEnded input s
ReadingEnded packets (Some (CaptureCut place)) input s = IsCut packets input s place
ReadingEnded packets (Some InputFailed) input s = CouldNotRead packets s
ReadingEnded packets (Some (PacketLimit limit)) input s = IsPastLimit packets s limit
ReadingEnded packets end input s = ⊥

-- ---- the whole

-- at most `packets` entries are the whole of the bytes
abbrev pub IsWholeCapture : ℕ → List ℕ → Type 0
IsWholeCapture packets bytes = (capture_split packets bytes).rest ≡ []

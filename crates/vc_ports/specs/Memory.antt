-- A source and a sink in memory: what they show, what each call answers, and what they are then.
use Rattle.std.specs.Prelude.{ℕ, ◌-◌, min, List, [], ◌∷◌, ◌++◌, Bool, nat_eq, nat_lt, ◌||◌, length, drop}
use Rattle.std.specs.Prelude.{if◌then◌else◌}
use Rattle.std.specs.List.{list_any}
use Rattle.vc_ports.specs.Faults.{counted}
use Rattle.vc_ports.specs.declared.source.Got.{Got}
use Rattle.vc_ports.specs.declared.source.Got.TheVariants as got
use Rattle.vc_ports.specs.declared.sink.Took.{Took}
use Rattle.vc_ports.specs.declared.sink.Took.TheVariants as took

-- whether the call after so many calls is one of those that fail; calls are numbered from 1
abbrev pub fails_next : List ℕ → ℕ → Bool
fails_next fails calls = list_any (λ number. nat_eq number (counted calls)) fails

-- ---- a source that never fails

-- the bytes that are left, and how often it said that none are
pub record PlainLeft : Type 0 where
  pub left : List ℕ
  pub ends : ℕ

-- how often it said so, once a read asked for some of these
abbrev pub ends_of : List ℕ → ℕ → ℕ
ends_of [] ends = counted ends
ends_of (byte ∷ left) ends = ends

-- the source behind a read into a buffer with this room
abbrev pub plain_read : PlainLeft → ℕ → PlainLeft
plain_read s room = record { left = drop room s.left; ends = ends_of s.left s.ends }

-- ---- one that fails

-- the bytes that are left, how often it said that none are, the numbers of the calls that fail, how
-- many calls there were, and how many failed
pub record SourceState : Type 0 where
  pub left : List ℕ
  pub ends : ℕ
  pub fails : List ℕ
  pub calls : ℕ
  pub faults : ℕ

-- as many bytes as there are and as there is room for
abbrev pub answer_of_left : List ℕ → ℕ → Got
answer_of_left [] room = got.End
answer_of_left (byte ∷ left) room = got.Bytes (min (length (byte ∷ left)) room)

-- what a read into a buffer with this room answers
abbrev pub read_answer : SourceState → ℕ → Got
read_answer s room = if fails_next s.fails s.calls then got.Failed else answer_of_left s.left room

-- the source behind such a read
abbrev pub source_after : SourceState → ℕ → SourceState
source_after s room = if fails_next s.fails s.calls
    then record s { calls = counted s.calls; faults = counted s.faults }
    else record s {
      left = drop room s.left;
      ends = ends_of s.left s.ends;
      calls = counted s.calls;
    }

-- the bytes held, how many may be held, the numbers of the calls that fail, how many calls there
-- were, and how many failed
pub record SinkState : Type 0 where
  pub held : List ℕ
  pub room : ℕ
  pub fails : List ℕ
  pub calls : ℕ
  pub faults : ℕ

-- whether the next write fails: its number is one of those that fail, or the piece would pass the
-- room
abbrev pub refuses : SinkState → List ℕ → Bool
refuses s piece = fails_next s.fails s.calls || nat_lt (s.room - length s.held) (length piece)

-- what a write of a piece answers
abbrev pub write_answer : SinkState → List ℕ → Took
write_answer s piece = if refuses s piece then took.Failed else took.Bytes (length piece)

-- the sink behind such a write
abbrev pub sink_after : SinkState → List ℕ → SinkState
sink_after s piece = if refuses s piece
    then record s { calls = counted s.calls; faults = counted s.faults }
    else record s { held = s.held ++ piece; calls = counted s.calls }

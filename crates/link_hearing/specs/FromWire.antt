-- What a wire gave to a command that listens at an address, and where hearing it ends.
use Rattle.std.specs.Prelude.{◌≡◌, ◌⊎◌, ◌≤◌, ◌<◌, ℕ, List, [], length, take, Option}
use Rattle.link_outside.specs.Passing.{Passes}
use Rattle.link_report.specs.declared.answer.Answer.{Answer}
use Rattle.link_report.specs.declared.answer.Answer.TheVariants.{Drained}
use Rattle.link_report.specs.declared.ending.Ending.TheVariants.{WireFailed}
use Rattle.link_report.specs.declared.summary.Summary.{Summary}
use Rattle.vc_ports.specs.Changes.{Change, WireChange, Stays}
use Rattle.vc_ports.specs.Faults.{Rose}
use Rattle.vc_ports.specs.Wires.{WireTold, IsOver, listening, waiting}
use Rattle.link_hearing.specs.Sessions.{ended_sessions}

-- ---- what it gave

-- at which address it listens, and after how many seconds it is to end
pub record Listening : Type 0 where
  pub address : List ℕ
  pub idle : ℕ

abbrev pub listening_at : List ℕ → ℕ → Listening
listening_at address idle = record { address = address; idle = idle }

-- a wire that has begun to listen so
abbrev pub begun_at : Listening → WireTold → WireTold
begun_at at told = waiting at.idle (listening told at.address)

-- it listened at the address, was asked to end after so many seconds, and then gave these datagrams;
-- nothing else was done to it, but that it may have been told that some of them were kept
abbrev pub HeardAt : Listening → WireChange → List (List ℕ) → Type 0
HeardAt at wire heard = Passes (begun_at at wire.told.before) wire.told.after [] heard

-- or it didn't come to listen, and nothing was done to it
abbrev pub HeardAtMost : Listening → WireChange → List (List ℕ) → Type 0
HeardAtMost at wire heard = HeardAt at wire heard ⊎ ((heard ≡ []) × Stays wire.told)

-- ---- where hearing ends

-- so many sessions of these datagrams have had their end, and not before the last of them
pub record EndsSessions (sessions : ℕ) (heard : List (List ℕ)) : Type 0 where
  pub reached : ended_sessions heard ≡ sessions
  pub no_sooner : (k : ℕ) → k < length heard → ended_sessions (take k heard) < sessions

-- how often the wire said that nothing more will come
abbrev pub ends_said : WireChange → Change ℕ
ends_said wire = record {
  before = wire.told.before.counts.ends;
  after = wire.told.after.counts.ends;
}

-- it said so, and nothing more will come, where it tells
pub record HasEnded (coming : Option (List (List ℕ))) (ends : Change ℕ) : Type 0 where
  pub nothing_more : IsOver coming
  pub said : Rose ends.before ends.after

-- fewer datagrams came than were asked for, and nothing more will come
pub record EndsEarly
    (packets : ℕ) (coming : Option (List (List ℕ))) (ends : Change ℕ) (heard : List (List ℕ)) : Type 0
  where
    pub fewer : length heard < packets
    pub ended : HasEnded coming ends

-- the end of the session that was asked for came, or nothing more will come
abbrev pub HeardToEnd : (packets sessions : ℕ) → WireChange → List (List ℕ) → Type 0
HeardToEnd packets sessions wire heard =
    EndsSessions sessions heard
    ⊎ EndsEarly packets wire.told.after.coming (ends_said wire) heard

-- so many datagrams came, and that session goes on
pub record IsPastPackets (packets sessions limit : ℕ) (heard : List (List ℕ)) : Type 0 where
  pub limit_is : limit ≡ packets
  pub count : length heard ≡ packets
  pub goes_on : ended_sessions heard < sessions

-- a call of the wire failed
abbrev pub has_failed_wire : Answer → Type 0
has_failed_wire answer = (summary : Summary) × (answer ≡ Drained summary WireFailed)

-- what will come ends that session within so many datagrams, or has fewer
abbrev pub IsReceivable : (packets sessions : ℕ) → List (List ℕ) → Type 0
IsReceivable packets sessions coming =
    ((k : ℕ) × (k ≤ packets) × (ended_sessions (take k coming) ≡ sessions))
    ⊎ (length coming < packets)

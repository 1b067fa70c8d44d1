-- A playout that wants datagrams until so many sessions have ended, and what it heard from a wire.
use Rattle.std.specs.Prelude.{◌<◌, ◌≤◌, ℕ, List, ◌++◌, length, take, Option, Result, Ok, Err}
use Rattle.link_receiver.specs.HeardLists.{OutputForm}
use Rattle.link_report.specs.declared.ending.Ending.{Ending}
use Rattle.link_report.specs.declared.ending.Ending.TheVariants.{PacketLimit, WireFailed}
use Rattle.vc_ports.specs.Changes.{WireChange, HasRisen}
use Rattle.vc_slice.specs.Asked.{Told}
use Rattle.link_hearing.specs.FromWire.{HeardToEnd, IsPastPackets}
use Rattle.link_hearing.specs.Sessions.{ended_sessions}
use Rattle.cmd_receive.specs.Ends.{Counts}
use Rattle.cmd_receive.specs.WireInlets.{WasGiven}
use Rattle.cmd_receive.specs.Playouts.{PlayoutState, BreaksOff, HasHeardSince, Hears}
use Rattle.cmd_receive.specs.declared.count.SessionCount.{SessionCount}

-- datagrams behind others are counted, and each of them came while fewer sessions had ended
pub record CountsOn
    (count : SessionCount) (sessions : ℕ) (before heard : List (List ℕ)) : Type 0 where
  pub counts : Counts count sessions (before ++ heard)
  pub wanted : (k : ℕ) → k < length heard → ended_sessions (before ++ take k heard) < sessions

-- it heard these datagrams, wanted each of them, and counted the sessions that they ended
pub record HearsWanted
    (x : PlayoutState) (first : SessionCount) (y : PlayoutState) (last : SessionCount)
    (heard : List (List ℕ)) : Type 0 where
  pub hears : Hears x y heard
  pub counts_on : (form : OutputForm) (window : ℕ) (held : Option (List ℕ)) (asked : Option Told)
      (before : List (List ℕ)) (sessions : ℕ) → HasHeardSince form window held asked x before
      → Counts first sessions before → CountsOn last sessions before heard

-- ---- a wire

abbrev pub WireHeard : (packets sessions : ℕ) → WireChange → (x y : PlayoutState)
    → List (List ℕ) → Result (Unit {0}) Ending → Type 0
WireHeard packets sessions wire x y datagrams (Ok done) =
    Hears x y datagrams × HeardToEnd packets sessions wire datagrams
WireHeard packets sessions wire x y datagrams (Err WireFailed) =
    Hears x y datagrams × HasRisen wire.faults
WireHeard packets sessions wire x y datagrams (Err (PacketLimit limit)) =
    Hears x y datagrams × IsPastPackets packets sessions limit datagrams
WireHeard packets sessions wire x y datagrams (Err end) = BreaksOff x y datagrams end

pub record HearsWire
    (packets sessions : ℕ) (wire : WireChange) (x y : PlayoutState)
    (result : Result (Unit {0}) Ending) : Type 0 where
  pub datagrams : List (List ℕ)
  pub given : WasGiven wire datagrams
  pub few : length datagrams ≤ packets
  pub heard : WireHeard packets sessions wire x y datagrams result

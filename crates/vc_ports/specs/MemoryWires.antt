-- Wires in memory: what they show, what each call answers, and what they are then.
use Rattle.std.specs.Prelude.{ℕ, ◌+◌, ◌-◌, ◌≤◌, List, [], ◌∷◌, ◌++◌, All, Bool, true, false, nat_lt, ◌||◌}
use Rattle.std.specs.Prelude.{map, length, take, drop, if◌then◌else◌, Some, None, Vec, vec_items}
use Rattle.vc_ports.specs.Faults.{counted}
use Rattle.vc_ports.specs.Memory.{fails_next}
use Rattle.vc_ports.specs.WireCounts.{sent_one, ended_once}
use Rattle.vc_ports.specs.Wires.{WireTold}
use Rattle.vc_ports.specs.declared.wire_counts.WireCounts.{WireCounts}
use Rattle.vc_ports.specs.declared.wire.Came.{Came}
use Rattle.vc_ports.specs.declared.wire.Came.TheVariants as came
use Rattle.vc_ports.specs.declared.wire.Reached.{Reached}
use Rattle.vc_ports.specs.declared.wire.Reached.TheVariants as reached
use Rattle.vc_ports.specs.declared.wire.Sent.{Sent}
use Rattle.vc_ports.specs.declared.wire.Sent.TheVariants as sent

abbrev pub datagrams_in : {Z : Type 0} → List (Vec ℕ Z) → List (List ℕ)
datagrams_in datagrams = map vec_items datagrams

-- each fits the buffer that it is received into
abbrev pub AreDatagrams : List (List ℕ) → Type 0
AreDatagrams datagrams = All (λ datagram. length datagram ≤ 65535) datagrams

-- the length of the next datagram, or the end
abbrev pub came_of : List (List ℕ) → Came
came_of [] = came.End
came_of (datagram ∷ more) = came.Datagram (length datagram)

-- the counts of a wire from which the next of these datagrams was asked for
abbrev pub asked_of : List (List ℕ) → WireCounts → WireCounts
asked_of [] counts = ended_once counts
asked_of (datagram ∷ more) counts = counts

-- ---- a wire that never fails

pub record PlainState : Type 0 where
  pub coming : List (List ℕ)
  pub given : List (List ℕ)
  pub counts : WireCounts

abbrev pub plain_told : PlainState → WireTold
plain_told w = record {
  coming = Some w.coming;
  given = Some w.given;
  sent = None;
  at = None;
  to = None;
  looped = false;
  listens = true;
  aimed = true;
  counts = w.counts;
}

abbrev pub plain_received : PlainState → PlainState
plain_received w = record {
  coming = drop 1 w.coming;
  given = w.given ++ take 1 w.coming;
  counts = asked_of w.coming w.counts;
}

-- ---- calls that fail

-- how many bytes of room are left, the numbers of the calls that fail, how many calls there were,
-- and how many failed
pub record Metered : Type 0 where
  pub room : ℕ
  pub fails : List ℕ
  pub calls : ℕ
  pub faults : ℕ

-- whether the next call fails, which takes so much room: its number is one of those that fail, or
-- it would pass the room
abbrev pub meter_refuses : Metered → ℕ → Bool
meter_refuses m bytes = fails_next m.fails m.calls || nat_lt m.room bytes

abbrev pub meter_after : Metered → ℕ → Metered
meter_after m bytes = if meter_refuses m bytes
    then record m { calls = counted m.calls; faults = counted m.faults }
    else record m { calls = counted m.calls; room = m.room - bytes }

-- ---- a wire that tells all its lists

pub record WireState : Type 0 where
  pub coming : List (List ℕ)
  pub given : List (List ℕ)
  pub sent : List (List ℕ)
  pub at : List (List ℕ)
  pub to : List (List ℕ)
  pub looped : Bool
  pub meter : Metered
  pub counts : WireCounts

-- it listens once it has an address to listen at, and is aimed likewise
abbrev pub has_address : List (List ℕ) → Bool
has_address [] = false
has_address (address ∷ more) = true

abbrev pub memory_told : WireState → WireTold
memory_told w = record {
  coming = Some w.coming;
  given = Some w.given;
  sent = Some w.sent;
  at = Some w.at;
  to = Some w.to;
  looped = w.looped;
  listens = has_address w.at;
  aimed = has_address w.to;
  counts = w.counts;
}

-- the room that a datagram or an address takes
abbrev pub room_of : List ℕ → ℕ
room_of bytes = length bytes + 2

-- what a call answers that has this address
abbrev pub reach_answer : WireState → List ℕ → Reached
reach_answer w bytes = if meter_refuses w.meter (room_of bytes) then reached.Failed else reached.Yes

-- what a call answers that sends these bytes
abbrev pub send_answer : WireState → List ℕ → Sent
send_answer w bytes = if meter_refuses w.meter (room_of bytes) then sent.Failed else sent.Yes

-- a list with one more at its end, unless a call fails
abbrev pub longer : WireState → List ℕ → List (List ℕ) → List (List ℕ)
longer w bytes list = if meter_refuses w.meter (room_of bytes) then list else list ++ bytes ∷ []

abbrev pub listen_after : WireState → List ℕ → WireState
listen_after w at = record w { at = longer w at w.at; meter = meter_after w.meter (room_of at) }

abbrev pub aim_after : WireState → List ℕ → WireState
aim_after w to = record w { to = longer w to w.to; meter = meter_after w.meter (room_of to) }

abbrev pub send_after : WireState → List ℕ → WireState
send_after w datagram = record w {
  sent = longer w datagram w.sent;
  coming = if w.looped then longer w datagram w.coming else w.coming;
  meter = meter_after w.meter (room_of datagram);
  counts = if meter_refuses w.meter (room_of datagram) then w.counts else sent_one w.counts;
}

abbrev pub recv_answer : WireState → Came
recv_answer w = if meter_refuses w.meter 0 then came.Failed else came_of w.coming

abbrev pub recv_after : WireState → WireState
recv_after w = if meter_refuses w.meter 0
    then record w { meter = meter_after w.meter 0 }
    else record w {
      coming = drop 1 w.coming;
      given = w.given ++ take 1 w.coming;
      meter = meter_after w.meter 0;
      counts = asked_of w.coming w.counts;
    }

-- ---- how they are kept

-- byte strings that are kept one behind the other, and the bytes of room that are left for more
pub record Stored : Type 0 where
  pub pieces : List (List ℕ)
  pub room : ℕ

-- what comes in all: the datagrams of the wire and, where it is looped, those that were sent
abbrev pub queue : List (List ℕ) → Bool → List (List ℕ) → List (List ℕ)
queue datagrams looped sent = datagrams ++ (if looped then sent else [])

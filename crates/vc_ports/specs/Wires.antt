-- What a wire tells, and what each of its calls makes of that.
use Rattle.std.specs.Prelude.{◌≡◌, ℕ, ◌≤◌, Bool, true, false, if◌then◌else◌, List, [], ◌∷◌, ◌++◌}
use Rattle.std.specs.Prelude.{length, take, drop, Option, None, IfSome}
use Rattle.std.specs.Option.{option_map}
use Rattle.vc_ports.specs.WireCounts.{sent_one, ended_once, kept_one, asked_for}
use Rattle.vc_ports.specs.declared.wire_counts.WireCounts.{WireCounts}
use Rattle.vc_ports.specs.declared.wire.Came.{Came}
use Rattle.vc_ports.specs.declared.wire.Came.TheVariants as came
use Rattle.vc_ports.specs.declared.wire.Reached.{Reached}
use Rattle.vc_ports.specs.declared.wire.Reached.TheVariants as reached
use Rattle.vc_ports.specs.declared.wire.Sent.{Sent}
use Rattle.vc_ports.specs.declared.wire.Sent.TheVariants as sent

-- The datagrams that will come, those that were given and those that were sent, and the addresses
-- at which it listens and to which it is aimed: each list where the wire tells it. Whether what is
-- sent comes, whether the wire listens, and whether it is aimed; and what every wire counts.
pub record WireTold : Type 0 where
  pub coming : Option (List (List ℕ))
  pub given : Option (List (List ℕ))
  pub sent : Option (List (List ℕ))
  pub at : Option (List (List ℕ))
  pub to : Option (List (List ℕ))
  pub looped : Bool
  pub listens : Bool
  pub aimed : Bool
  pub counts : WireCounts

-- a wire that tells none of its lists
abbrev pub untold : (listens aimed : Bool) → WireCounts → WireTold
untold listens aimed counts = record {
  coming = None;
  given = None;
  sent = None;
  at = None;
  to = None;
  looped = false;
  listens = listens;
  aimed = aimed;
  counts = counts;
}

-- a list that is told, with one more at its end
abbrev pub grown : Option (List (List ℕ)) → List ℕ → Option (List (List ℕ))
grown list one = option_map (λ all. all ++ one ∷ []) list

-- ---- behind each call

abbrev pub listening : WireTold → List ℕ → WireTold
listening told at = record told { at = grown told.at at; listens = true }

abbrev pub aiming : WireTold → List ℕ → WireTold
aiming told to = record told { to = grown told.to to; aimed = true }

abbrev pub sending : WireTold → List ℕ → WireTold
sending told datagram = record told {
  sent = grown told.sent datagram;
  coming = if told.looped then grown told.coming datagram else told.coming;
  counts = sent_one told.counts;
}

abbrev pub receiving : WireTold → List ℕ → WireTold
receiving told datagram =
    record told { coming = option_map (drop 1) told.coming; given = grown told.given datagram }

-- it was asked to end after so many seconds
abbrev pub waiting : ℕ → WireTold → WireTold
waiting seconds told = record told { counts = asked_for seconds told.counts }

-- it was told that a datagram was kept
abbrev pub keeping : WireTold → WireTold
keeping told = record told { counts = kept_one told.counts }

-- it said that nothing more will come
abbrev pub ending : WireTold → WireTold
ending told = record told { counts = ended_once told.counts }

-- ---- by the call's answer

-- what was to be is so, or nothing changed
abbrev pub Reaches : WireTold → WireTold → WireTold → Reached → Type 0
Reaches before next after reached.Yes = after ≡ next
Reaches before next after reached.Failed = after ≡ before

-- the wire tells neither what is sent nor what will come
pub record TellsNothing (told : WireTold) : Type 0 where
  pub sent : told.sent ≡ None
  pub coming : told.coming ≡ None

-- the datagram was sent, or nothing changed; only a wire that tells nothing may lose it
abbrev pub Sends : WireTold → WireTold → List ℕ → Sent → Type 0
Sends before after datagram sent.Yes = after ≡ sending before datagram
Sends before after datagram sent.Lost = TellsNothing before × (after ≡ sending before datagram)
Sends before after datagram sent.Failed = after ≡ before

-- nothing more will come, where the wire tells
abbrev pub IsOver : Option (List (List ℕ)) → Type 0
IsOver coming = IfSome coming (λ datagrams. datagrams ≡ [])

-- the datagram at the front of the buffer is the first of those that were to come
pub record Receives (before after : WireTold) (datagram : List ℕ) : Type 0 where
  pub first : IfSome before.coming (λ coming. take 1 coming ≡ datagram ∷ [])
  pub told : after ≡ receiving before datagram

abbrev pub Comes : WireTold → WireTold → List ℕ → Came → Type 0
Comes before after buf (came.Datagram n) = (n ≤ length buf) × Receives before after (take n buf)
-- a wire that tells what will come ends where nothing will; one that doesn't may end
Comes before after buf came.End = IsOver before.coming × (after ≡ ending before)
Comes before after buf came.Failed = after ≡ before

-- What several calls of a wire make of what it tells.
use Rattle.std.specs.Prelude.{◌≡◌, ℕ, ◌+◌, ◌-◌, ◌^◌, ◌≤◌, min, Bool, if◌then◌else◌, List, [], ◌∷◌, ◌++◌}
use Rattle.std.specs.Prelude.{length, Option, Result, Ok, Err}
use Rattle.std.specs.Option.{option_map}
use Rattle.vc_ports.specs.Wires.{WireTold, IsOver, ending}
use Rattle.vc_ports.specs.declared.wire_counts.WireCounts.{WireCounts}
use Rattle.vc_types.specs.declared.memory.NoMemory.{NoMemory}
use Rattle.link_outside.specs.declared.inbox.Arrived.{Arrived}
use Rattle.link_outside.specs.declared.inbox.Arrived.TheVariants.{Datagram, End, Failed}

-- a list that is told, with more at its end
abbrev pub grown_by : Option (List (List ℕ)) → List (List ℕ) → Option (List (List ℕ))
grown_by list more = option_map (λ all. all ++ more) list

-- a list that is told, with more at its front
abbrev pub led_by : List (List ℕ) → Option (List (List ℕ)) → Option (List (List ℕ))
led_by front list = option_map (λ rest. front ++ rest) list

-- what comes back of what is sent
abbrev pub looped_back : Bool → List (List ℕ) → List (List ℕ)
looped_back looped sent = if looped then sent else []

-- a count of 64 bits did not fall
abbrev pub NoLess : (before after : ℕ) → Type 0
NoLess before after = min before (2 ^ 64 - 1) ≤ after

-- it rose by so much, or stands at its last value
pub record RoseBy (rise before after : ℕ) : Type 0 where
  pub least : min (before + rise) (2 ^ 64 - 1) ≤ after
  pub most : after ≤ before + rise

-- so many datagrams were sent, or lost, and no other end was asked for; the wire may have been told
-- that datagrams were kept, and have said that nothing more will come
pub record Counted (sends : ℕ) (before after : WireCounts) : Type 0 where
  pub sent : RoseBy sends before.sends after.sends
  pub idle_stays : after.idle ≡ before.idle
  pub kept_later : NoLess before.kept after.kept
  pub ends_later : NoLess before.ends after.ends

-- These datagrams were sent and those were given, by calls in any order, each where the wire tells
-- the list; every wire counts how many were sent. Those that were given are the first of those that
-- were to come, behind which come those that were sent where the wire is looped. All else that it
-- tells is as it was.
pub record Passes (before after : WireTold) (sent given : List (List ℕ)) : Type 0 where
  pub sent_grew : after.sent ≡ grown_by before.sent sent
  pub given_grew : after.given ≡ grown_by before.given given
  pub came : grown_by before.coming (looped_back before.looped sent) ≡ led_by given after.coming
  pub at_stays : after.at ≡ before.at
  pub to_stays : after.to ≡ before.to
  pub looped_stays : after.looped ≡ before.looped
  pub listens_stays : after.listens ≡ before.listens
  pub aimed_stays : after.aimed ≡ before.aimed
  pub counted : Counted (length sent) before.counts after.counts

-- what a receive did, by what arrived; a datagram for which there was no memory was given too
abbrev pub Arrives : WireTold → WireTold → Result Arrived NoMemory → Type 0
Arrives before after (Ok (Datagram datagram)) = Passes before after [] (datagram ∷ [])
-- a wire that tells what will come ends where nothing will; one that doesn't may end
Arrives before after (Ok End) = IsOver before.coming × (after ≡ ending before)
Arrives before after (Ok Failed) = after ≡ before
Arrives before after (Err no_memory) = (datagram : List ℕ) × Passes before after [] (datagram ∷ [])

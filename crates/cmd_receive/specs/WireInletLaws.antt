-- Datagrams that come one after another from a wire. The laws of its inlet cite these.
use Rattle.std.proofs.Common.{ℕ, List, [], ◌++◌, Option, Some, None, arith}
use Rattle.link_outside.specs.Calls.{passes_none, passes_then}
use Rattle.link_report.specs.declared.ending.Ending.{Ending}
use Rattle.link_report.specs.declared.ending.Ending.TheVariants.{NoMemory, WireFailed}
use Rattle.vc_ports.specs.Changes.{WireChange}
use Rattle.vc_ports.specs.Wires.{WireTold}
use Rattle.cmd_receive.specs.WireInlets.{EndsWire, StoppedWire, WasGiven}

abbrev pub told_between : (before after : WireTold) → (first last : ℕ) → WireChange
told_between before after first last = record {
  told = record { before = before; after = after };
  faults = record { before = first; after = last };
}

pub none_given : (told : WireTold) (faults : ℕ) → WasGiven (told_between told told faults faults) []
none_given told faults = record { passes = passes_none told; later = omega arith }

module _ (a b c : WireTold) (i j k : ℕ) (first : List (List ℕ))
    (p : WasGiven (told_between a b i j) first) where
  pub more_given : (second : List (List ℕ)) → WasGiven (told_between b c j k) second
      → WasGiven (told_between a c i k) (first ++ second)
  more_given second q = record {
    passes = passes_then a b c [] first [] second p.passes q.passes;
    later = omega (arith, p.later, q.later);
  }

  wire_ends : (end : Option Ending) (lost : List (List ℕ))
      → EndsWire end (told_between b c j k) lost → EndsWire end (told_between a c i k) lost
  wire_ends None lost e = (
    e.0,
    record {
      nothing_more = e.1.nothing_more;
      said = omega (arith, p.passes.counted.ends_later, e.1.said);
    },
  )
  wire_ends (Some WireFailed) lost e = (e.0, omega (arith, p.later, e.1))
  wire_ends (Some NoMemory) lost e = tt
  wire_ends other lost e = absurd e

  pub wire_stops : (end : Option Ending) → StoppedWire (told_between b c j k) [] end
      → StoppedWire (told_between a c i k) first end
  wire_stops end q = record {
    lost = q.lost;
    few = q.few;
    given = more_given q.lost q.given;
    ended = wire_ends end q.lost q.ended;
  }

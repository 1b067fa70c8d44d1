-- Datagrams that are sent to a wire one after another. The laws of an outlet cite these.
use Rattle.std.proofs.Common.{ℕ, ◌+◌, List, [], ◌++◌, length, take, arith, length-append}
use Rattle.std.proofs.Math.Seq.{take-append-add}
use Rattle.std.proofs.lemmas.List.{take-append-le}
use Rattle.vc_ports.specs.Changes.{WireChange}
use Rattle.vc_ports.specs.Wires.{WireTold}
use Rattle.link_outside.specs.Calls.{passes_none, passes_then}
use Rattle.link_outside.specs.declared.outlet.OutletFault.{OutletFault}
use Rattle.link_outside.specs.Outlets.{SentAll, SentPart}

-- a wire that told so much, and had counted so many faults, before and after
abbrev told_between : (before after : WireTold) → (first last : ℕ) → WireChange
told_between before after first last =
    record {
      told = record { before = before; after = after };
      faults = record { before = first; after = last };
    }

pub none_sent : (told : WireTold) (faults : ℕ) → SentAll (told_between told told faults faults) []
none_sent told faults = record { passes = passes_none told; later = omega arith }

module _ (a b c : WireTold) (i j k : ℕ) (first second : List (List ℕ)) where
  pub more_sent : SentAll (told_between a b i j) first → SentAll (told_between b c j k) second
      → SentAll (told_between a c i k) (first ++ second)
  more_sent p q = record {
    passes = passes_then a b c first [] second [] p.passes q.passes;
    later = omega (arith, p.later, q.later);
  }

  pub part_behind : (fault : OutletFault) → SentAll (told_between a b i j) first
      → SentPart (told_between b c j k) second fault
      → SentPart (told_between a c i k) (first ++ second) fault
  part_behind fault p q = record {
    fault_is = q.fault_is;
    count = length first + q.count;
    within = omega (arith, q.within, length-append first second);
    passes = rw take-append-add
        (passes_then a b c first [] (take q.count second) [] p.passes q.passes);
    rose = omega (arith, p.later, q.rose);
  }

pub sent_part_before : (a b : WireTold) (i j : ℕ) (first second : List (List ℕ))
    (fault : OutletFault) → SentPart (told_between a b i j) first fault
    → SentPart (told_between a b i j) (first ++ second) fault
sent_part_before a b i j first second fault p = record {
  fault_is = p.fault_is;
  count = p.count;
  within = omega (arith, p.within, length-append first second);
  passes = rw (take-append-le p.count first second p.within) p.passes;
  rose = p.rose;
}

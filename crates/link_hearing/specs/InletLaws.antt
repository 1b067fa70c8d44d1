-- Datagrams that come one after another out of a capture. The laws of its inlet cite these.
use Rattle.std.proofs.Common.{ℕ, ◌+◌, List, [], ◌∷◌, ◌++◌, length, Option, Some, None}
use Rattle.std.proofs.Common.{arith, append-nil, append_assoc, length-append}
use Rattle.link_outside.specs.CaptureLaws.{capture-append}
use Rattle.link_outside.specs.Outlets.{capture_of}
use Rattle.link_report.specs.declared.ending.Ending.{Ending}
use Rattle.link_report.specs.declared.ending.Ending.TheVariants.{CaptureCut, InputFailed, NoMemory}
use Rattle.vc_ports.proofs.Given.{Gave-none, Gave-then}
use Rattle.vc_ports.specs.Changes.{InputChange}
use Rattle.link_hearing.specs.Inlets.{EndsReading, FitEntries, GaveEntries, GaveWhole, StoppedReading}

-- an input of which so much was left, and which had counted so many faults, before and after
abbrev pub left_between : (before after : Option (List ℕ)) → (first last : ℕ) → InputChange
left_between before after first last = record {
  left = record { before = before; after = after };
  faults = record { before = first; after = last };
}

fit_both : (first second : List (List ℕ)) → FitEntries first → FitEntries second
    → FitEntries (first ++ second)
fit_both [] second p q = q
fit_both (d ∷ rest) second p q = (p.0, fit_both rest second p.1 q)

pub none_read : (left : Option (List ℕ)) (faults place : ℕ)
    → GaveWhole (left_between left left faults faults) place place []
none_read left faults place = record {
  gave = record { took = Gave-none left; fit = tt; later = omega arith };
  moved = omega arith;
}

module _ (a b c : Option (List ℕ)) (i j k place mid : ℕ) (first : List (List ℕ))
    (p : GaveWhole (left_between a b i j) place mid first) where
  then_gave : (second : List (List ℕ)) (part : List ℕ)
      → GaveEntries (left_between b c j k) second part
      → GaveEntries (left_between a c i k) (first ++ second) part
  then_gave second part q = record {
    took = rw (capture-append first second, append_assoc (capture_of first) (capture_of second) part)
        (Gave-then a b c (capture_of first) (capture_of second ++ part)
        (rw append-nil at p.gave.took) q.took);
    fit = fit_both first second p.gave.fit q.fit;
    later = omega (arith, p.gave.later, q.later);
  }

  pub more_read : (last : ℕ) (second : List (List ℕ))
      → GaveWhole (left_between b c j k) mid last second
      → GaveWhole (left_between a c i k) place last (first ++ second)
  more_read last second q = record {
    gave = then_gave second [] q.gave;
    moved = rw capture-append
        (omega (arith, p.moved, q.moved, length-append (capture_of first) (capture_of second)));
  }

  ends_then : (end : Option Ending) (lost : List (List ℕ)) (part : List ℕ)
      → EndsReading end (left_between b c j k) (mid + length (capture_of [])) lost part
      → EndsReading end (left_between a c i k) (place + length (capture_of first)) lost part
  ends_then None lost part e = e
  ends_then (Some (CaptureCut at)) lost part e = (e.0, e.1, e.2, omega (arith, e.3, p.moved))
  ends_then (Some InputFailed) lost part e = (e.0, omega (arith, p.gave.later, e.1))
  ends_then (Some NoMemory) lost part e = tt
  ends_then other lost part e = absurd e

  pub reading_stops : (end : Option Ending) → StoppedReading (left_between b c j k) mid [] end
      → StoppedReading (left_between a c i k) place first end
  reading_stops end q = record {
    lost = q.lost;
    part = q.part;
    until = record {
      gave = then_gave q.lost q.part q.until.gave;
      few = q.until.few;
      not_whole = q.until.not_whole;
    };
    ended = ends_then end q.lost q.part q.ended;
  }

-- One datagram out of a capture, or why there is none.
use Rattle.std.proofs.Common.{◌≡◌, ◌≤◌, ◌<◌, ◌+◌, ◌^◌, ℕ, List, [], ◌∷◌, length, Option, Some, None, Err, refl, ap, arith, append-nil}
use Rattle.std.specs.Global.{Vec}
use Rattle.std.specs.Prelude.{Result}
use Rattle.link_capture.proofs.Heads.{first_entry-stub, length-entry}
use Rattle.link_capture.specs.Capture.{entry}
use Rattle.link_capture.specs.Reading.{ReadsEntry}
use Rattle.link_capture.specs.declared.fault.EntryFault.{EntryFault}
use Rattle.link_capture.specs.declared.fault.EntryFault.TheVariants as entries
use Rattle.link_outside.specs.CaptureLaws.{capture-one}
use Rattle.link_report.specs.declared.ending.Ending.TheVariants.{NoMemory}
use Rattle.vc_ports.specs.Faults.{HasCause}
use Rattle.vc_ports.specs.Reading.{Gave, GaveAll}
use Rattle.link_hearing.specs.InletLaws.{left_between}
use Rattle.link_hearing.specs.Inlets.{GaveEntries, GaveWhole, StoppedReading, entry_ending}

module _ (a b : Option (List ℕ)) (i j place : ℕ) where
  module _ (later : i ≤ j) where
    gave_one : (d : List ℕ) → length d < 2 ^ 16 → Gave a b (entry d)
        → GaveEntries (left_between a b i j) (d ∷ []) []
    gave_one d fits gave = record {
      took = rw (append-nil, capture-one d) gave;
      fit = (fits, tt);
      later = later;
    }

    pub one_read : (last : ℕ) (d : List ℕ) → (length d < 2 ^ 16) × Gave a b (entry d)
        → last ≡ place + 2 + length d → GaveWhole (left_between a b i j) place last (d ∷ [])
    one_read last d read moved = record {
      gave = gave_one d read.0 read.1;
      moved = omega (arith, moved, ap length (capture-one d), length-entry d);
    }

    pub one_lost : (d : List ℕ) → (length d < 2 ^ 16) × Gave a b (entry d)
        → StoppedReading (left_between a b i j) place [] (Some NoMemory)
    one_lost d read = record {
      lost = d ∷ [];
      part = [];
      until = record {
        gave = gave_one d read.0 read.1;
        few = omega arith;
        not_whole = first_entry-stub [] (omega arith);
      };
      ended = tt;
    }

    pub none_left : GaveAll a b [] → StoppedReading (left_between a b i j) place [] None
    none_left gave = record {
      lost = [];
      part = [];
      until = record {
        gave = record { took = gave.gave; fit = tt; later = later };
        few = omega arith;
        not_whole = first_entry-stub [] (omega arith);
      };
      ended = (refl, refl, gave.at_end);
    }

  pub not_read : (fault : EntryFault)
      → HasCause i j (◌≡◌ {A = Result (Option (Vec ℕ)) EntryFault} (Err fault) (Err entries.ReadFault))
      → ReadsEntry a b place (Err fault)
      → StoppedReading (left_between a b i j) place [] (Some (entry_ending fault))
  not_read (entries.Cut at) cause read = record {
    lost = [];
    part = read.1.part;
    until = record {
      gave = record { took = read.1.gave.gave; fit = tt; later = cause.later };
      few = omega arith;
      not_whole = read.1.not_whole;
    };
    ended = (refl, read.1.some, read.1.gave.at_end, omega (arith, read.0));
  }
  not_read entries.ReadFault cause read = record {
    lost = [];
    part = read.part;
    until = record {
      gave = record { took = read.gave; fit = tt; later = cause.later };
      few = omega arith;
      not_whole = read.not_whole;
    };
    ended = (refl, cause.rose refl);
  }
  not_read entries.NoMemory cause read = record {
    lost = [];
    part = read.part;
    until = record {
      gave = record { took = read.gave; fit = tt; later = cause.later };
      few = omega arith;
      not_whole = read.not_whole;
    };
    ended = tt;
  }

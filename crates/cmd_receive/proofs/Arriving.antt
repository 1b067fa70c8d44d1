-- One datagram from a wire, or why there is none.
use Rattle.std.proofs.Common.{◌≡◌, ◌≤◌, ℕ, List, [], ◌∷◌, Some, None, refl, sym, subst, arith}
use Rattle.link_outside.specs.Calls.{passes_end, passes_kept, passes_none}
use Rattle.link_outside.specs.Passing.{Passes}
use Rattle.link_report.specs.declared.ending.Ending.TheVariants.{NoMemory, WireFailed}
use Rattle.vc_ports.specs.Faults.{Rose}
use Rattle.vc_ports.specs.Wires.{WireTold, IsOver, ending, keeping}
use Rattle.cmd_receive.specs.WireInletLaws.{told_between}
use Rattle.cmd_receive.specs.WireInlets.{StoppedWire, WasGiven}

module _ (a b : WireTold) (i j : ℕ) (later : i ≤ j) where
  pub one_given : (d : List ℕ) → Passes a b [] (d ∷ []) → WasGiven (told_between a b i j) (d ∷ [])
  one_given d passes = record { passes = passes; later = later }

  pub given_lost : (d : List ℕ) × Passes a b [] (d ∷ [])
      → StoppedWire (told_between a b i j) [] (Some NoMemory)
  given_lost lost = record {
    lost = lost.0 ∷ [];
    few = omega arith;
    given = record { passes = lost.1; later = later };
    ended = tt;
  }

  pub wire_ended : b ≡ ending a → IsOver a.coming → StoppedWire (told_between a b i j) [] None
  wire_ended is none = record {
    lost = [];
    few = omega arith;
    given = record { passes = passes_end a b is; later = later };
    ended = (
      refl,
      record {
        nothing_more = subst (λ (t : WireTold). IsOver t.coming) (sym is) none;
        said = rw is (omega arith);
      },
    );
  }

  -- it was told that a datagram was kept
  pub was_kept : b ≡ keeping a → WasGiven (told_between a b i j) []
  was_kept is = record { passes = passes_kept a b is; later = later }

  module _ (same : b ≡ a) where
    none_given : WasGiven (told_between a b i j) []
    none_given = record {
      passes = subst (λ (t : WireTold). Passes a t [] []) (sym same) (passes_none a);
      later = later;
    }

    pub wire_failed : Rose i j → StoppedWire (told_between a b i j) [] (Some WireFailed)
    wire_failed rose = record {
      lost = [];
      few = omega arith;
      given = none_given;
      ended = (refl, rose);
    }

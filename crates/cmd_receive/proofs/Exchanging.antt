-- How a datagram is exchanged: it is sent, and then one is received and heard, or not.
use Rattle.std.proofs.Common.{◌≡◌, ℕ, ◌≤◌, Bool, true, false, List, [], ◌∷◌, length, Some, None, refl, sym, subst, arith, inl, inr}
use Rattle.std.specs.Prelude.{Option, if◌then◌else◌}
use Rattle.link_outside.specs.Calls.{passes_none, passes_sent, passes_then}
use Rattle.link_outside.specs.Passing.{Passes}
use Rattle.link_outside.specs.declared.outlet.OutletFault.TheVariants as outlets
use Rattle.link_report.specs.declared.ending.Ending.{Ending}
use Rattle.link_report.specs.declared.ending.Ending.TheVariants.{NoMemory, OutputFailed, WireFailed}
use Rattle.vc_ports.specs.Faults.{Rose}
use Rattle.vc_ports.specs.Wires.{WireTold, IsOver, TellsNothing, grown, sending}
use Rattle.cmd_receive.specs.Exchanges.{Exchanged, LoopBroke, LoopState, WereLooped}
use Rattle.cmd_receive.specs.HearingLaws.{all_but, none_heard}
use Rattle.cmd_receive.specs.WireInletLaws.{told_between}
use Rattle.cmd_receive.specs.WireInlets.{StoppedWire, WasGiven}
use Rattle.cmd_receive.specs.Playouts.{PlayoutState, BreaksOff, Hears}

module _ (x : LoopState) (datagram : List ℕ) (mid : WireTold) (j : ℕ) (first : x.wire_faults ≤ j) where
  -- it wasn't sent
  pub unsent : mid ≡ x.told → Rose x.wire_faults j
      → LoopBroke x (record { playout = x.playout; told = mid; wire_faults = j }) (datagram ∷ []) outlets.Wire
  unsent same rose = record {
    count = 0;
    within = omega arith;
    given = [];
    broke = (
      record {
        passes = subst (λ (t : WireTold). Passes x.told t [] []) (sym same) (passes_none x.told);
        few = omega arith;
        later = first;
      },
      none_heard x.playout,
      rose,
    );
  }

  -- the network lost it
  pub unanswered : TellsNothing x.told × (mid ≡ sending x.told datagram)
      → WereLooped x (record { playout = x.playout; told = mid; wire_faults = j }) (datagram ∷ [])
  unanswered (nothing, sent) = (
    [],
    record {
      exchanged = record {
        passes = passes_sent x.told mid datagram sent;
        few = omega arith;
        later = first;
      };
      hears = none_heard x.playout;
      in_turn = inr (subst (λ (t : WireTold). IsOver t.coming) (sym sent)
          (none_coming x.told.looped x.told.coming nothing.coming));
    },
  )
    where
      told_is_untold : (all : List (List ℕ)) → Some all ≡ None → ⊥
      told_is_untold all same = cc

      none_coming : (looped : Bool) (coming : Option (List (List ℕ))) → coming ≡ None
          → IsOver (if looped then grown coming datagram else coming)
      none_coming true None none = tt
      none_coming false None none = tt
      none_coming looped (Some all) none = absurd (told_is_untold all none)

  module _ (sent : mid ≡ sending x.told datagram) (after : WireTold) (k : ℕ) where
    abbrev behind : PlayoutState → LoopState
    behind z = record { playout = z; told = after; wire_faults = k }

    exchanged : (z : PlayoutState) (given : List (List ℕ)) → length given ≤ 1
        → WasGiven (told_between mid after j k) given
        → Exchanged x (behind z) (datagram ∷ []) given
    exchanged z given few was = record {
      passes = passes_then x.told mid after (datagram ∷ []) [] [] given
          (passes_sent x.told mid datagram sent) was.passes;
      few = omega (arith, few);
      later = omega (arith, first, was.later);
    }

    -- no more will come
    pub ended : StoppedWire (told_between mid after j k) [] None
        → WereLooped x (behind x.playout) (datagram ∷ [])
    ended s = (
      [],
      record {
        exchanged = exchanged x.playout [] (omega arith) (rw s.ended.0 at s.given);
        hears = none_heard x.playout;
        in_turn = inr s.ended.1.nothing_more;
      },
    )

    -- none was received
    pub failed : StoppedWire (told_between mid after j k) [] (Some WireFailed)
        → LoopBroke x (behind x.playout) (datagram ∷ []) outlets.Wire
    failed s = record {
      count = 1;
      within = omega arith;
      given = [];
      broke = (
        exchanged x.playout [] (omega arith) (rw s.ended.0 at s.given),
        none_heard x.playout,
        omega (arith, first, s.ended.1),
      );
    }

    -- or one was lost
    pub lost : (end : Ending) → StoppedWire (told_between mid after j k) [] (Some end)
        → LoopBroke x (behind x.playout) (datagram ∷ []) outlets.NoMemory
    lost end s = record {
      count = 1;
      within = omega arith;
      given = s.lost;
      broke = (
        exchanged x.playout s.lost s.few s.given,
        all_but s.lost s.few (none_heard x.playout),
      );
    }

    -- one was received
    module _ (came : List ℕ) (was : WasGiven (told_between mid after j k) (came ∷ [])) (z : PlayoutState) where
      pub heard : Hears x.playout z (came ∷ []) → WereLooped x (behind z) (datagram ∷ [])
      heard hears = (
        came ∷ [],
        record {
          exchanged = exchanged z (came ∷ []) (omega arith) was;
          hears = hears;
          in_turn = inl refl;
        },
      )

      pub unwritten : BreaksOff x.playout z (came ∷ []) OutputFailed
          → LoopBroke x (behind z) (datagram ∷ []) outlets.Output
      unwritten breaks = record {
        count = 1;
        within = omega arith;
        given = came ∷ [];
        broke = (exchanged z (came ∷ []) (omega arith) was, breaks);
      }

      pub unheard : BreaksOff x.playout z (came ∷ []) NoMemory
          → LoopBroke x (behind z) (datagram ∷ []) outlets.NoMemory
      unheard breaks = record {
        count = 1;
        within = omega arith;
        given = came ∷ [];
        broke = (exchanged z (came ∷ []) (omega arith) was, breaks);
      }

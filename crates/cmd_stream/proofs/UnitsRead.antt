-- What a loop over the units of a source knows: at its start, behind each unit, and at each of its ends.
use Rattle.std.proofs.Common.{◌≡◌, ℕ, ◌+◌, ◌-◌, ◌<◌, true, false, List, [], ◌∷◌, ◌++◌, Option, refl, arith, length-append, inl, inr}
use Rattle.std.proofs.lemmas.List.Folds.{list_any-append}
use Rattle.vc_ports.specs.Reading.{GaveAll}
use Rattle.vc_ports.specs.Writing.{Grew}
use Rattle.vc_ports.proofs.Given.{Gave-none, Gave-then}
use Rattle.vc_ports.proofs.Growing.{Grew-none, Grew-then}
use Rattle.vc_units.specs.Reading.{GaveUnit}
use Rattle.vc_types.specs.DataUnits.{DataUnit, is_end_of_sequence}
use Rattle.vc_units.proofs.Streams.{units_within-nothing}
use Rattle.cmd_stream.specs.PlayLooping.{PlayIsBehind, UnitsHaveEnded}
use Rattle.cmd_stream.specs.Taking.{BringsDue}
use Rattle.cmd_stream.specs.Stream.{StreamSoFar, at_start, all_taken, after_unit, played}
use Rattle.cmd_stream.proofs.SoFar.{so_far-taken}
use Rattle.cmd_stream.proofs.UnitSplits.{no_units, none_split, one_unit, split_more}

-- before the first unit
pub begun : (packets : ℕ) (left held : Option (List ℕ)) → PlayIsBehind packets 0 left left held held at_start
unfolding all_taken
begun packets left held = record {
  given = [];
  units = [];
  gave = Gave-none left;
  split = none_split packets;
  count = refl;
  goes_on = refl;
  so_far = refl;
  wrote = Grew-none held;
}

module _ (packets number : ℕ) (before mid held_before held_mid : Option (List ℕ)) (h : StreamSoFar) (at : PlayIsBehind packets number before mid held_before held_mid h) where
  module _ (room : number < packets) (after : Option (List ℕ)) (u : DataUnit) (gave : GaveUnit mid after u) where
    module _ (held_after : Option (List ℕ)) (b : BringsDue h.stream u) (grew : Grew held_mid held_after b.due) where
      all_written : Grew held_before held_after (played b.next)
      all_written = rw b.grows (Grew-then held_before held_mid held_after (played h.stream) b.due at.wrote grew)

      -- a unit more
      pub with_unit : is_end_of_sequence u ≡ false → PlayIsBehind packets (number + 1) before after held_before held_after (after_unit h u b.next)
      with_unit goes_on = record {
        given = at.given ++ gave.bytes;
        units = at.units ++ u ∷ [];
        gave = Gave-then before mid after at.given gave.bytes at.gave gave.gave;
        split = split_more packets number at.given at.units at.split room gave.bytes u gave.is goes_on;
        count = omega (arith, length-append at.units (u ∷ []), at.count);
        goes_on = rw (list_any-append is_end_of_sequence at.units (u ∷ []), at.goes_on, goes_on) refl;
        so_far = so_far-taken at.units u h b.next at.so_far b.taken;
        wrote = all_written;
      }

      -- an end of sequence
      pub with_last : is_end_of_sequence u ≡ true → UnitsHaveEnded packets before after held_before held_after (after_unit h u b.next)
      with_last ends = record {
        given = at.given ++ gave.bytes;
        units = at.units ++ u ∷ [];
        gave = Gave-then before mid after at.given gave.bytes at.gave gave.gave;
        split = one_unit packets number at.given at.units at.split room gave.bytes u gave.is true ends;
        so_far = so_far-taken at.units u h b.next at.so_far b.taken;
        wrote = all_written;
        ends = inr (rw (list_any-append is_end_of_sequence at.units (u ∷ []), at.goes_on, ends) refl);
      }

  -- the end at a unit's edge
  pub at_edge : (after : Option (List ℕ)) → GaveAll mid after [] → UnitsHaveEnded packets before after held_before held_mid h
  at_edge after gave = record {
    given = at.given ++ [];
    units = at.units;
    gave = Gave-then before mid after at.given [] at.gave gave.gave;
    split = no_units packets number at.given at.units at.split [] (units_within-nothing (packets - number));
    so_far = at.so_far;
    wrote = at.wrote;
    ends = inl gave.at_end;
  }

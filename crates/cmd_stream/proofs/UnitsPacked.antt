-- What a loop over the units of a source knows: at its start, behind each unit, and at each of its ends.
use Rattle.std.proofs.Common.{◌≡◌, ℕ, ◌+◌, ◌-◌, ◌<◌, true, false, List, [], ◌∷◌, ◌++◌, Option, None, refl, sym, ap, subst, ◌∙◌, arith, length-append, inl, inr}
use Rattle.std.proofs.lemmas.List.Folds.{list_any-append}
use Rattle.vc_ports.specs.Reading.{GaveAll}
use Rattle.vc_ports.specs.Writing.{Grew}
use Rattle.vc_ports.proofs.Given.{Gave-none, Gave-then}
use Rattle.vc_ports.proofs.Growing.{Grew-none, Grew-then}
use Rattle.vc_units.specs.Reading.{GaveUnit}
use Rattle.vc_types.specs.DataUnits.{DataUnit, is_end_of_sequence}
use Rattle.vc_units.proofs.Streams.{units_within-nothing}
use Rattle.link_outside.specs.CaptureLaws.{capture-append}
use Rattle.link_outside.specs.Outlets.{capture_of}
use Rattle.stream_model.specs.Packed.{PackedSoFar, nothing_packed, packed_behind, packed_of, settings_for, stream_packed}
use Rattle.stream_model.proofs.PackedMore.{none_packed}
use Rattle.cmd_stream.specs.PackLooping.{HasComeToEnd, HasPackedSome}
use Rattle.cmd_stream.specs.PackSteps.{BringsUnit}
use Rattle.cmd_stream.proofs.SoFarPacked.{so_far_taken}
use Rattle.cmd_stream.proofs.UnitSplits.{no_units, none_split, one_unit, split_more}
use Rattle.vc_types.specs.SenderSettings.{Packing}

-- before the first unit
pub begun : (s : Packing) (packets : ℕ) (left held : Option (List ℕ)) → HasPackedSome s packets 0 left left held held nothing_packed
unfolding packed_of
begun s packets left held = record {
  given = [];
  units = [];
  gave = Gave-none left;
  split = none_split packets;
  count = refl;
  goes_on = refl;
  so_far = refl;
  wrote = subst (Grew held held) (sym (ap capture_of (none_packed (settings_for s None)))) (Grew-none held);
}

module _ (s : Packing) (packets number : ℕ) (before mid held_before held_mid : Option (List ℕ)) (h : PackedSoFar) (at : HasPackedSome s packets number before mid held_before held_mid h) where
  module _ (room : number < packets) (after : Option (List ℕ)) (u : DataUnit) (gave : GaveUnit mid after u) where
    module _ (held_after : Option (List ℕ)) (b : BringsUnit s h.stream u) (grew : Grew held_mid held_after (capture_of b.due)) where
      all_written : Grew held_before held_after (capture_of (stream_packed s b.next))
      all_written = subst (Grew held_before held_after) (sym (ap capture_of b.grows ∙ capture-append (stream_packed s h.stream) b.due)) (Grew-then held_before held_mid held_after (capture_of (stream_packed s h.stream)) (capture_of b.due) at.wrote grew)

      -- a unit more
      pub with_unit : is_end_of_sequence u ≡ false → HasPackedSome s packets (number + 1) before after held_before held_after (packed_behind h u b.next)
      with_unit goes_on = record {
        given = at.given ++ gave.bytes;
        units = at.units ++ u ∷ [];
        gave = Gave-then before mid after at.given gave.bytes at.gave gave.gave;
        split = split_more packets number at.given at.units at.split room gave.bytes u gave.is goes_on;
        count = omega (arith, length-append at.units (u ∷ []), at.count);
        goes_on = rw (list_any-append is_end_of_sequence at.units (u ∷ []), at.goes_on, goes_on) refl;
        so_far = so_far_taken s at.units u h b.next at.so_far b.taken;
        wrote = all_written;
      }

      -- an end of sequence
      pub with_last : is_end_of_sequence u ≡ true → HasComeToEnd s packets before after held_before held_after (packed_behind h u b.next)
      with_last ends = record {
        given = at.given ++ gave.bytes;
        units = at.units ++ u ∷ [];
        gave = Gave-then before mid after at.given gave.bytes at.gave gave.gave;
        split = one_unit packets number at.given at.units at.split room gave.bytes u gave.is true ends;
        so_far = so_far_taken s at.units u h b.next at.so_far b.taken;
        wrote = all_written;
        ends = inr (rw (list_any-append is_end_of_sequence at.units (u ∷ []), at.goes_on, ends) refl);
      }

  -- the end at a unit's edge
  pub at_edge : (after : Option (List ℕ)) → GaveAll mid after [] → HasComeToEnd s packets before after held_before held_mid h
  at_edge after gave = record {
    given = at.given ++ [];
    units = at.units;
    gave = Gave-then before mid after at.given [] at.gave gave.gave;
    split = no_units packets number at.given at.units at.split [] (units_within-nothing (packets - number));
    so_far = at.so_far;
    wrote = at.wrote;
    ends = inl gave.at_end;
  }

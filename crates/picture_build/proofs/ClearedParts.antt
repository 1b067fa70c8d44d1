-- A slice's coefficients that are put into the low parts of cells, whose high ones are cleared where they count.
use Rattle.std.proofs.Common.{◌≡◌, ℕ, Bool, true, false, List, ◌<◌, ◌++◌, take, drop, length, ℤ, pos, arith, sym, ap, ◌∙◌}
use Rattle.vc_types.specs.declared.video.Component.{Component}
use Rattle.vc_types.specs.Lifting.{line_of}
use Rattle.vc_slice.specs.declared.bands.SliceBands.{SliceBands}
use Rattle.vc_slice.specs.Bands.{coefficient_count}
use Rattle.picture_build.specs.Cells.{cells_in}
use Rattle.picture_build.specs.PartsKept.{ChangesPart, PutsCoefficients, place_kept}
use Rattle.picture_build.proofs.GridCells.{written_over}
use Rattle.picture_build.proofs.TwoParts.{length_in, length_seen, narrow_at, seen_narrow, written_length, written_off, written_low}

-- a list that was written through a borrow, and is as long as it was
pub written_through : (items old new : List ℤ) (len : ℕ) → old ≡ items → len ≡ length items → length new ≡ length old → take len (new ++ drop (length new) items) ≡ new
written_through items old new len same long kept = written_over len new (drop (length new) items) (omega (arith, long, ap length same, kept))

module _ (bands : SliceBands) (c : Component) (wide : Bool) (high low now : List ℤ) (view : cells_in wide high low ≡ now) (even : wide ≡ true → length high ≡ length low) (low2 : List ℤ) (only : ChangesPart bands.parts.now c low low2) where
  -- both parts
  module _ (e : wide ≡ true) (high2 : List ℤ) (cleared : ChangesPart bands.parts.now c high high2) where
    pub even2 : length high2 ≡ length low2
    even2 = cleared.length ∙ even e ∙ sym only.length

    pub both_change : ChangesPart bands.parts.now c now (cells_in wide high2 low2)
    both_change = record {
      length = written_length wide high low now view even e high2 low2 even2 only.length;
      others = λ k none. written_off wide high low now view even e high2 low2 even2 k (cleared.others k none) (only.others k none);
    }

    pub both_put : (coefficients : ℕ → ℤ) → ((i : ℕ) → i < coefficient_count bands.parts.now c → line_of high2 (place_kept bands.parts.now c i) ≡ pos 0)
        → PutsCoefficients bands c coefficients low low2 → PutsCoefficients bands c coefficients now (cells_in wide high2 low2)
    both_put coefficients zero puts = record {
      on = λ i h. written_low wide high low now view even e high2 low2 even2 (place_kept bands.parts.now c i) (coefficients i) (zero i h) (puts.on i h);
      narrow = puts.narrow;
      only = both_change;
    }

  -- the low one alone
  module _ (e : wide ≡ false) where
    pub low_changes : ChangesPart bands.parts.now c now (cells_in wide high low2)
    low_changes = record {
      length = length_in wide high low2 (λ w. even w ∙ sym only.length) ∙ only.length ∙ sym (length_seen wide high low now view even);
      others = λ k none. narrow_at wide high low2 k e ∙ only.others k none ∙ sym (seen_narrow wide high low now view even k e);
    }

    pub low_put : (coefficients : ℕ → ℤ) → PutsCoefficients bands c coefficients low low2 → PutsCoefficients bands c coefficients now (cells_in wide high low2)
    low_put coefficients puts = record {
      on = λ i h. narrow_at wide high low2 (place_kept bands.parts.now c i) e ∙ puts.on i h;
      narrow = puts.narrow;
      only = low_changes;
    }

use Rattle.std.proofs.Common.{◌≡◌, ◌+◌, ◌-◌, ◌*◌, ◌<◌, ◌≤◌, ℕ}
use Rattle.vc_types.specs.Lifting.{line_of}
use Rattle.vc_wave.specs.Remade.{parted_in_turn}
use Rattle.vc_wave.specs.Samples.{padded_sample}
use Rattle.vc_wave.proofs.parting.part_pairs.Given as goal

abbrev pub invariant-loop-pair : goal.invariant-loop-pair
invariant-loop-pair l = record {
  made : (x y : ℕ) → x < 2 * l.source.level.w → y < 2 * (l.pair - l.wanted.from)
      → y < 2 * (l.wanted.to - l.wanted.from)
      → line_of l.out (y * (2 * l.source.level.w) + x)
      ≡ parted_in_turn l.source.level.wavelets.down l.source.level.w l.source.level.h
      (padded_sample l.source.plane.now l.source.depth) x (2 * l.wanted.from + y);
  below : l.wanted.from ≤ l.pair;
}

abbrev pub decreases-loop-pair : goal.decreases-loop-pair
decreases-loop-pair l = l.wanted.to - l.pair

use Rattle.std.proofs.Common.{◌≡◌, ◌+◌, ◌-◌, ◌*◌, ◌<◌, ◌≤◌, ℕ}
use Rattle.vc_types.specs.Lifting.{line_of}
use Rattle.vc_types.specs.Transforms.{inverse_level}
use Rattle.vc_wave.specs.Parts.{subbands_of}
use Rattle.vc_wave.proofs.lower.merge_level.Given as goal

abbrev pub invariant-loop-pair : goal.invariant-loop-pair
invariant-loop-pair l = record {
  made : (x y : ℕ) → x < 2 * l.level.w → y < 2 * l.pair → y < 2 * l.level.h
      → line_of l.out (y * (2 * l.level.w) + x)
      ≡ inverse_level l.level.wavelets.down l.level.wavelets.across l.level.w l.level.h (subbands_of l.subbands)
      x y;
  inside : l.pair ≤ l.level.h;
}

abbrev pub decreases-loop-pair : goal.decreases-loop-pair
decreases-loop-pair l = l.level.h - l.pair

use Rattle.std.proofs.Common.{◌≡◌, ◌+◌, ◌*◌, ◌<◌, ◌≤◌, ℕ, unsigned_abs}
use Rattle.vc_types.specs.Lifting.{line_of}
use Rattle.vc_wave.specs.Parts.{subbands_of}
use Rattle.vc_wave.specs.Remade.{half_place}
use Rattle.vc_wave.proofs.bands.gather.Given as goal

abbrev pub invariant-loop-n : goal.invariant-loop-n
invariant-loop-n l = record {
  made : (x k : ℕ) → x < 2 * l.subbands.level.w → k < 2 * l.n
      → line_of l.window (k * (2 * l.subbands.level.w) + x)
      ≡ subbands_of l.subbands x (half_place l.subbands.level.h (2 * l.first + k));
  small : (x k : ℕ) → x < 2 * l.subbands.level.w → k < 2 * l.n
      → unsigned_abs (subbands_of l.subbands x (half_place l.subbands.level.h (2 * l.first + k))) ≤ l.most;
}

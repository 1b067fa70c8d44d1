use Rattle.std.proofs.Common.{◌≡◌, ◌<◌, ◌≤◌, ℕ}
use Rattle.vc_types.specs.Lifting.{line_of}
use Rattle.vc_types.specs.Subbands.{place_in}
use Rattle.vc_lowdelay.specs.Bands.{value_in}
use Rattle.vc_lowdelay.specs.Grown.{value_at}
use Rattle.vc_lowdelay.proofs.wide.put_lowest.Given as goal

abbrev pub invariant-loop-i : goal.invariant-loop-i
invariant-loop-i l = record {
  on : (k : ℕ) → k < l.i → line_of l.coefficients k ≡ value_at (value_in l.lowest) (place_in l.rect k);
  off : (k : ℕ) → l.i ≤ k → line_of l.coefficients k ≡ line_of l.fn.coefficients k;
}

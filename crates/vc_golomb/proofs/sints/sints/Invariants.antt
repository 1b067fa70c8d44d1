use Rattle.std.proofs.Common.{◌≡◌, ◌+◌, ◌-◌, ◌<◌, ◌≤◌, ℕ, length, unsigned_abs}
use Rattle.vc_types.specs.Lifting.{line_of}
use Rattle.vc_golomb.specs.Numbers.{number_at}
use Rattle.vc_golomb.proofs.sints.sints.Given as goal

abbrev pub invariant-numbers : goal.invariant-numbers
invariant-numbers l = record {
  long : length l.out ≡ length l.initial.out;
  read : (i : ℕ) → i < l.done → line_of l.out i ≡ number_at l.fn.block i;
  left : (k : ℕ) → number_at l.fn.block (l.done + k) ≡ number_at l.left k;
  row : 128 ≤ l.most;
  most : (i : ℕ) → i < l.done → unsigned_abs (line_of l.out i) ≤ l.most;
}

abbrev pub decreases-numbers : goal.decreases-numbers
decreases-numbers l = l.count - l.done

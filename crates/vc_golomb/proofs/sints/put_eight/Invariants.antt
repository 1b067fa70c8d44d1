use Rattle.std.proofs.Common.{◌≡◌, ◌+◌, ◌<◌, ◌≤◌, ℕ, unsigned_abs}
use Rattle.vc_types.specs.Lifting.{line_of}
use Rattle.vc_golomb.proofs.sints.put_eight.Given as goal

abbrev pub invariant-loop-j : goal.invariant-loop-j
invariant-loop-j l = record {
  on : (i : ℕ) → i < l.j → line_of l.out (l.at + i) ≡ line_of l.values i;
  small : (i : ℕ) → i < l.j → unsigned_abs (line_of l.out (l.at + i)) ≤ 128;
  off : (i : ℕ) → i < l.at → line_of l.out i ≡ line_of l.initial.out i;
}

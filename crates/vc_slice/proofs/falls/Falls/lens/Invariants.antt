use Rattle.std.proofs.Common.{◌≡◌, ◌+◌, ◌≤◌, ℕ, get_or, length}
use Rattle.vc_slice.specs.Falls.{sum_from, most_from}
use Rattle.vc_slice.proofs.falls.Falls.lens.Given as goal

abbrev pub invariant-indices : goal.invariant-indices
invariant-indices l = record {
  within : l.index ≤ 128;
  long : length l.lens ≡ 128;
  bits : l.bits ≡ sum_from l.index l.self.bits;
  kept : l.kept ≡ most_from l.index l.self.kept;
  done : (q : ℕ) → l.index ≤ q → q ≤ 127 → get_or l.lens q 0 ≡ sum_from q l.self.bits + most_from q l.self.kept;
}

abbrev pub decreases-indices : goal.decreases-indices
decreases-indices l = l.index

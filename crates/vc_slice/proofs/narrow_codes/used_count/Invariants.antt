use Rattle.std.proofs.Common.{◌≡◌, ◌<◌, ◌≤◌, ℕ, pos, length}
use Rattle.vc_types.specs.Lifting.{line_of}
use Rattle.vc_slice.proofs.narrow_codes.used_count.Given as goal

abbrev pub invariant-zeros : goal.invariant-zeros
invariant-zeros l = record {
  within : l.count ≤ length l.numbers;
  zeros : (i : ℕ) → l.count ≤ i → i < length l.numbers → line_of l.numbers i ≡ pos 0;
}

abbrev pub decreases-zeros : goal.decreases-zeros
decreases-zeros l = l.count

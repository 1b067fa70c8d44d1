use Rattle.std.proofs.Common.{◌≡◌, ◌+◌, ◌<◌, ◌≤◌, ◌⊎◌, ℕ, length}
use Rattle.vc_types.specs.Lifting.{line_of}
use Rattle.vc_types.specs.Quantisation.{dequantised}
use Rattle.picture_build.proofs.wide.put_dequantised_row.Given as goal

abbrev pub invariant-loop-x : goal.invariant-loop-x
invariant-loop-x l = record {
  on : (i : ℕ) → i < l.x → line_of l.cells (l.at + i) ≡ dequantised (line_of l.quantised.numbers.now (l.from + i)) l.quantised.quantiser.now.index;
  off : (k : ℕ) → (k < l.at) ⊎ (l.at + l.width ≤ k) → line_of l.cells k ≡ line_of l.initial.cells k;
  length : length l.cells ≡ length l.initial.cells;
}

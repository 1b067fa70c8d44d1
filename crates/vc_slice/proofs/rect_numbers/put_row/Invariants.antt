use Rattle.std.proofs.Common.{◌≡◌, ◌+◌, ◌<◌, ◌≤◌, ◌⊎◌, ℕ, length}
use Rattle.vc_types.specs.Lifting.{line_of}
use Rattle.vc_types.specs.Quantisation.{dequantised}
use Rattle.vc_slice.proofs.rect_numbers.put_row.Given as goal

abbrev pub invariant-loop-x : goal.invariant-loop-x
invariant-loop-x l = record {
  read : (i : ℕ) → i < l.x → line_of l.few i ≡ dequantised (line_of l.numbers (l.from + i)) l.quantiser.index;
  long : length l.few ≡ 16;
}

abbrev pub invariant-loop-x-then-width-le16 : goal.invariant-loop-x-then-width-le16
invariant-loop-x-then-width-le16 l = record {
  on : (i : ℕ) → i < l.x → line_of l.cells (l.at + i) ≡ dequantised (line_of l.fn.quantised.numbers.now (l.fn.from + i)) l.fn.quantised.quantiser.now.index;
  off : (i : ℕ) → (i < l.at) ⊎ (l.at + l.width ≤ i) → line_of l.cells i ≡ line_of l.initial.cells i;
}

abbrev pub invariant-loop-x-else-width-le16 : goal.invariant-loop-x-else-width-le16
invariant-loop-x-else-width-le16 l = record {
  on : (i : ℕ) → i < l.x → line_of l.cells (l.at + i) ≡ dequantised (line_of l.numbers (l.from + i)) l.quantiser.index;
  off : (i : ℕ) → (i < l.at) ⊎ (l.at + l.width ≤ i) → line_of l.cells i ≡ line_of l.initial.cells i;
}

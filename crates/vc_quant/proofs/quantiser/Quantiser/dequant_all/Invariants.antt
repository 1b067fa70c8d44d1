use Rattle.std.proofs.Common.{◌≡◌, ◌<◌, ◌≤◌, ◌^◌, ℕ, unsigned_abs}
use Rattle.vc_types.specs.Lifting.{line_of}
use Rattle.vc_types.specs.Quantisation.{dequantised}
use Rattle.vc_quant.proofs.quantiser.Quantiser.dequant_all.Given as goal

abbrev pub invariant-loop-number : goal.invariant-loop-number
invariant-loop-number l = record {
  done : (k : ℕ) → k < l.number-index → line_of l.numbers k ≡ dequantised (line_of l.initial.numbers k) l.self.index;
  narrow : (k : ℕ) → k < l.number-index → unsigned_abs (line_of l.numbers k) < 2 ^ 29;
  left : (k : ℕ) → l.number-index ≤ k → line_of l.numbers k ≡ line_of l.initial.numbers k;
}

use Rattle.std.proofs.Common.{◌≡◌, ◌<◌, ℕ, length}
use Rattle.vc_types.specs.Lifting.{line_of}
use Rattle.vc_types.specs.Quantisation.{quantised}
use Rattle.vc_quant.proofs.quantising.NarrowReciprocal.quantise.Given as goal

abbrev pub invariant-loop-k : goal.invariant-loop-k
invariant-loop-k l = record {
  done : (i : ℕ) → i < l.k → line_of l.numbers i ≡ quantised (line_of l.coefficients i) l.self.index;
  long : length l.numbers ≡ length l.coefficients;
}

use Rattle.std.proofs.Common.{◌≡◌, ◌++◌, ◌-◌, ℕ, List, false, replicate}
use Rattle.std.specs.List.{list_any}
use Rattle.vc_types.specs.Slices.{is_large}
use Rattle.vc_slice.specs.Inside.{coefficients_by}
use Rattle.vc_slice.proofs.subband.read_subband.Given as goal

abbrev pub invariant-loop-i : goal.invariant-loop-i
invariant-loop-i l = record {
  read : (indices : List ℕ) → l.coeffs.items ++ coefficients_by (replicate (l.count - l._i) l.quantiser.index ++ indices) l.block ≡ l.fn.coeffs.items ++ coefficients_by (replicate l.count l.quantiser.index ++ indices) l.fn.block;
  sound : list_any is_large l.coeffs.items ≡ false;
}

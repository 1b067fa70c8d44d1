use Rattle.std.proofs.Common.{◌≡◌, ◌++◌, ◌+◌, ◌*◌, ◌≤◌, ℤ, List, length, drop}
use Rattle.vc_slice.specs.Listed.{listed}
use Rattle.vc_slice.specs.Inside.{subband_numbers, codes_behind}
use Rattle.vc_slice.proofs.counting.count_each.Given as goal

abbrev pub invariant-loop-place : goal.invariant-loop-place
invariant-loop-place l = record {
  bits : (more : List ℤ) → l.counted.bits + length (codes_behind l.counted.zeros (subband_numbers l.quantiser.index (drop l.place (listed l.coefficients)) ++ more)) ≡ l.fn.counted.bits + length (codes_behind l.fn.counted.zeros (subband_numbers l.quantiser.index (listed l.coefficients) ++ more));
  room : l.counted.bits + l.counted.zeros ≤ l.fn.counted.bits + l.fn.counted.zeros + 128 * l.place;
}

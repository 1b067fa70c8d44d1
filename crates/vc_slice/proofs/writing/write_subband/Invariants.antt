use Rattle.std.proofs.Common.{◌≡◌, ◌++◌, ◌+◌, ◌≤◌, ℤ, List, drop}
use Rattle.vc_slice.specs.Listed.{listed}
use Rattle.vc_slice.specs.Inside.{subband_numbers, codes_behind}
use Rattle.vc_slice.proofs.writing.write_subband.Given as goal

abbrev pub invariant-loop-place : goal.invariant-loop-place
invariant-loop-place l = record {
  codes : (more : List ℤ) → l.w ++ codes_behind l.zeros (subband_numbers l.quantiser.index (drop l.place (listed l.coefficients)) ++ more) ≡ l.fn.w ++ codes_behind l.fn.zeros (subband_numbers l.quantiser.index (listed l.coefficients) ++ more);
  room : l.zeros ≤ l.fn.zeros + l.place;
}

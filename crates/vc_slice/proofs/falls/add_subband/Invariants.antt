use Rattle.std.proofs.Common.{◌≡◌, ◌++◌, ◌+◌, ◌-◌, ◌*◌, ◌≤◌, ℕ, ℤ, List, drop}
use Rattle.vc_slice.specs.Falls.{sum_from, most_from, block_from}
use Rattle.vc_slice.specs.Listed.{listed}
use Rattle.vc_slice.specs.Inside.{subband_numbers}
use Rattle.vc_slice.proofs.falls.add_subband.Given as goal

abbrev pub invariant-loop-place : goal.invariant-loop-place
invariant-loop-place l = record {
  count : l.falls.count ≡ l.fn.falls.count + l.place;
  room : sum_from 0 l.falls.bits ≤ 128 * l.falls.count;
  places : (q : ℕ) → most_from q l.falls.kept ≤ l.falls.count;
  bits : (q : ℕ) → q ≤ 127 → (more : List ℤ) → block_from q l.falls.count l.falls.bits l.falls.kept (subband_numbers (q - l.least) (drop l.place (listed l.coefficients)) ++ more)
      ≡ block_from q l.fn.falls.count l.fn.falls.bits l.fn.falls.kept (subband_numbers (q - l.least) (listed l.coefficients) ++ more);
}

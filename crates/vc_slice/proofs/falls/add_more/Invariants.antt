use Rattle.std.proofs.Common.{◌≡◌, ◌+◌, ◌-◌, ◌*◌, ◌/◌, ◌^◌, ◌≤◌, ℕ}
use Rattle.vc_types.specs.Quantisation.{quant_factor}
use Rattle.vc_slice.specs.Falls.{sum_from, code_steps}
use Rattle.vc_slice.proofs.falls.add_more.Given as goal

abbrev pub invariant-digits : goal.invariant-digits
invariant-digits l = record {
  from : 2 ≤ l.digits;
  to : l.digits ≤ 61;
  low : 2 ^ (l.digits - 1) ≤ l.magnitude + 1;
  bits : (q : ℕ) → q ≤ 127 → sum_from q l.bits + code_steps 1 (4 * l.magnitude / quant_factor (q - l.least) + 1) ≡ sum_from q l.fn.bits + code_steps (l.digits - 1) (4 * l.magnitude / quant_factor (q - l.least) + 1);
  room : sum_from 0 l.bits ≤ sum_from 0 l.fn.bits + 2 * (l.digits - 2);
}

abbrev pub decreases-digits : goal.decreases-digits
decreases-digits l = 61 - l.digits

use Rattle.std.proofs.Common.{◌≡◌, ◌*◌, ◌^◌, ◌≤◌, ℕ, length}
use Rattle.vc_types.specs.TransformParameters.{parameters_of}
use Rattle.vc_types.specs.Encoding.{component_bits}
use Rattle.vc_slice.specs.Falls.{sum_from, most_from, block_from}
use Rattle.vc_slice.specs.Listed.{listed}
use Rattle.vc_slice.proofs.BlockCodes.{AreFrom, numbers_from}
use Rattle.vc_slice.proofs.falls.all_lens.Given as goal

abbrev pub invariant-loop-b : goal.invariant-loop-b
invariant-loop-b l = record {
  rest : (q : ℕ) → AreFrom (parameters_of l.parts.plan) l.parts.slice q l.c l.b (listed l.rest);
  count : l.falls.count ≤ l.b * 2 ^ 26;
  room : sum_from 0 l.falls.bits ≤ 128 * l.falls.count;
  places : (q : ℕ) → most_from q l.falls.kept ≤ l.falls.count;
  bits : (q : ℕ) → q ≤ 127 → block_from q l.falls.count l.falls.bits l.falls.kept (numbers_from (parameters_of l.parts.plan) l.parts.slice q l.c l.b (listed l.rest)) ≡ length (component_bits (parameters_of l.parts.plan) l.parts.slice q l.coeffs l.c);
}

use Rattle.std.proofs.Common.{◌≡◌, ◌+◌, ◌*◌, ◌^◌, ◌≤◌, length}
use Rattle.vc_types.specs.TransformParameters.{parameters_of}
use Rattle.vc_types.specs.Encoding.{component_bits}
use Rattle.vc_slice.specs.Inside.{codes_behind}
use Rattle.vc_slice.specs.Listed.{listed}
use Rattle.vc_slice.proofs.BlockCodes.{AreFrom, numbers_from}
use Rattle.vc_slice.proofs.counting.block_len.Given as goal

abbrev pub invariant-loop-b : goal.invariant-loop-b
invariant-loop-b l = record {
  rest : AreFrom (parameters_of l.bands.parts.now.plan) l.bands.parts.now.slice l.bands.index l.c l.b (listed l.rest);
  bits : l.counted.bits + length (codes_behind l.counted.zeros (numbers_from (parameters_of l.bands.parts.now.plan) l.bands.parts.now.slice l.bands.index l.c l.b (listed l.rest))) ≡ length (component_bits (parameters_of l.bands.parts.now.plan) l.bands.parts.now.slice l.bands.index l.coeffs l.c);
  room : l.counted.bits + l.counted.zeros ≤ l.b * (128 * 2 ^ 26);
}

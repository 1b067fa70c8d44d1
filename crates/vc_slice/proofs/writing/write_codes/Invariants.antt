use Rattle.std.proofs.Common.{◌≡◌, ◌++◌, ◌*◌, ◌^◌, ◌≤◌}
use Rattle.vc_types.specs.TransformParameters.{parameters_of}
use Rattle.vc_types.specs.Encoding.{component_bits}
use Rattle.vc_slice.specs.Inside.{codes_behind}
use Rattle.vc_slice.specs.Listed.{listed}
use Rattle.vc_slice.proofs.BlockCodes.{AreFrom, numbers_from}
use Rattle.vc_slice.proofs.writing.write_codes.Given as goal

abbrev pub invariant-loop-b : goal.invariant-loop-b
invariant-loop-b l = record {
  rest : AreFrom (parameters_of l.bands.parts.now.plan) l.bands.parts.now.slice l.bands.index l.c l.b (listed l.rest);
  codes : l.w ++ codes_behind l.zeros (numbers_from (parameters_of l.bands.parts.now.plan) l.bands.parts.now.slice l.bands.index l.c l.b (listed l.rest)) ≡ l.fn.w ++ component_bits (parameters_of l.bands.parts.now.plan) l.bands.parts.now.slice l.bands.index l.coeffs l.c;
  room : l.zeros ≤ l.b * 2 ^ 26;
}

use Rattle.std.proofs.Common.{◌≡◌, ◌++◌, take}
use Rattle.vc_types.specs.ParameterSpelling.{numbers_bits}
use Rattle.vc_params.proofs.writer.write_values.Given as goal

abbrev pub invariant-loop-value : goal.invariant-loop-value
invariant-loop-value l = l.w ≡ l.fn.w ++ numbers_bits (take l.value-index l.values)

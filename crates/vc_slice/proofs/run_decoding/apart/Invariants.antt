use Rattle.std.proofs.Common.{◌≡◌, take}
use Rattle.vc_types.specs.TransformParameters.{parameters_of}
use Rattle.vc_slice.specs.Strips.{decodings}
use Rattle.vc_slice.proofs.run_decoding.apart.Given as goal

abbrev pub invariant-loop-k : goal.invariant-loop-k
invariant-loop-k l = l.answers.items ≡ decodings (parameters_of l.plan) l.first (take l.k l.slices)

use Rattle.std.proofs.Common.{◌≡◌, map}
use Rattle.std.specs.List.{range_with_len}
use Rattle.vc_types.specs.Encoding.{encoded_length}
use Rattle.vc_types.specs.TransformParameters.{parameters_of}
use Rattle.vc_slice.proofs.encoding.lens_of.Given as goal

abbrev pub invariant-loop-q : goal.invariant-loop-q
invariant-loop-q l = l.lens.items ≡ map (λ q. encoded_length (parameters_of l.parts.plan) l.parts.slice q l.coeffs) (range_with_len 0 l.q)

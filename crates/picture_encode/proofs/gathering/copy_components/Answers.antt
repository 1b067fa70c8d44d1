use Rattle.std.proofs.Common.{arith}
use Rattle.vc_types.specs.TransformParameters.{parameters_of}
use Rattle.vc_slice.proofs.ColourParts.{colour_counts}
use Rattle.picture_encode.proofs.gathering.copy_components.Goals as goal

pub copy_slice-requires-3-clause-coeffs : goal.copy_slice-requires-3-clause-coeffs
copy_slice-requires-3-clause-coeffs c =
    let same = colour_counts (parameters_of c.args.parts.now.plan) c.args.parts.now.slice in
    omega (arith, same, c.split_at_mut-for_y.ensures.back_len, c.split_at_mut-for_c1.ensures.back_len)

use Rattle.std.proofs.Common.{◌∙◌}
use Rattle.vc_types.specs.TransformParameters.{parameters_of}
use Rattle.vc_slice.proofs.EncodedSlices.{length_by}
use Rattle.vc_slice.proofs.encoding.len_of_parts.Goals as goal

pub returns : goal.returns
returns c = c.slice_len.ensures ∙ length_by (parameters_of c.args.parts.now.plan) c.args.parts.now.slice c.args.q c.args.coeffs.now c.block_lens.result.y c.block_lens.result.c1 c.block_lens.result.c2 c.block_lens.ensures.y c.block_lens.ensures.c1 c.block_lens.ensures.c2

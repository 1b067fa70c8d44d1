use Rattle.vc_types.specs.TransformParameters.{parameters_of}
use Rattle.picture_encode.proofs.Judged.{lens_told}
use Rattle.picture_encode.proofs.slices.told_lens.Goals as goal

pub returns-then-wanted : goal.returns-then-wanted
returns-then-wanted c = lens_told c.args.wanted (parameters_of c.args.parts.now.plan) c.args.parts.now.slice c.args.coeffs.now c.if-wanted.true c.encoded_lens.result c.encoded_lens.ensures

use Rattle.std.proofs.Common.{◌∙◌, arith}
use Rattle.link_model.proofs.SentHeads.{by_symmetry}
use Rattle.vc_types.proofs.MatrixEnds.{default_filled}
use Rattle.picture_encode.proofs.plan.matrix.Goals as goal

pub returns-clause-unused : goal.returns-clause-unused
returns-clause-unused c =
    default_filled c.args.wavelet c.args.depth (c.args.wavelet, 0) c.in-Ok.matrix (omega arith)
    (by_symmetry c.args.wavelet c.args.depth ∙ c.in-Ok.ensures.value)

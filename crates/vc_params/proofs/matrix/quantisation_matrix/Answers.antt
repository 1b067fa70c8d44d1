use Rattle.std.proofs.Common.{arith}
use Rattle.vc_types.proofs.MatrixEnds.{default_filled}
use Rattle.vc_params.proofs.matrix.quantisation_matrix.Goals as goal

pub returns-in-Ok-clause-ends : goal.returns-in-Ok-clause-ends
returns-in-Ok-clause-ends c = default_filled c.args.wavelet c.args.depth (c.args.across.0, c.args.across.1) c.in-Ok.matrix (omega arith) c.in-Ok.ensures.value

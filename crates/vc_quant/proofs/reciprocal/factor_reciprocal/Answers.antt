use Rattle.std.proofs.Common.{arith}
use Rattle.vc_quant.proofs.Quotients.{factor_reciprocal_at}
use Rattle.vc_quant.proofs.reciprocal.factor_reciprocal.Goals as goal

pub returns : goal.returns
returns c = factor_reciprocal_at c.args.q (omega arith)

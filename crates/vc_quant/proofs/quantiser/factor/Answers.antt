use Rattle.std.proofs.Common.{arith}
use Rattle.vc_quant.proofs.Quotients.{factor_at, factor_range}
use Rattle.vc_quant.proofs.quantiser.factor.Goals as goal

pub returns-clause-value : goal.returns-clause-value
returns-clause-value c = factor_at c.args.q (omega arith)

pub returns-clause-range : goal.returns-clause-range
returns-clause-range c = omega (arith, factor_range, factor_at)

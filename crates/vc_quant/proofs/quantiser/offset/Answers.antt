use Rattle.std.proofs.Common.{arith}
use Rattle.vc_quant.proofs.Quotients.{offset_at}
use Rattle.vc_quant.proofs.quantiser.offset.Goals as goal

pub returns-clause-value : goal.returns-clause-value
returns-clause-value c = grind (arith, offset_at)

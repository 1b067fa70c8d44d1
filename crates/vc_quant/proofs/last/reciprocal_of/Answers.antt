use Rattle.vc_quant.proofs.Quotients.{reciprocal_at}
use Rattle.vc_quant.proofs.last.reciprocal_of.Goals as goal

pub returns : goal.returns
returns c = reciprocal_at c.args.digits c.requires.0 c.requires.1

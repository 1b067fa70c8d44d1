use Rattle.vc_quant.proofs.Quotients.{last_at}
use Rattle.vc_quant.proofs.last.last_of_few.Goals as goal

pub returns-clause-value : goal.returns-clause-value
returns-clause-value c = (last_at c.args.quarters c.requires.0 c.requires.1).value

pub returns-clause-range : goal.returns-clause-range
returns-clause-range c = (last_at c.args.quarters c.requires.0 c.requires.1).range

use Rattle.std.proofs.Common.{refl}
use Rattle.std.proofs.lemmas.Fn.{says_at}
use Rattle.picture_encode.proofs.chooser.Chooser.index.Goals as goal

pub returns-clause-range : goal.returns-clause-range
returns-clause-range g c = c.requires.range c.args.need.now c.choose.result (says_at g.F.Fn c.choose.ensures refl)

use Rattle.std.proofs.Common.{sym}
use Rattle.picture_build.proofs.TwoParts.{length_seen}
use Rattle.picture_build.proofs.cells.CoefficientCells.restart.Goals as goal

pub returns : goal.returns
returns c = record { length = sym (length_seen c.self.inside.is_wide c.self.inside.high.items c.self.inside.low.items c.args.self.now c.self.view_is c.self.invariant.even) }

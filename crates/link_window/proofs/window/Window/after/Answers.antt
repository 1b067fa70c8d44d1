use Rattle.std.proofs.Common.{arith}
use Rattle.link_model.proofs.WindowStands.{new_stands}
use Rattle.link_window.proofs.window.Window.after.Goals as goal

pub returns-clause-stands : goal.returns-clause-stands
returns-clause-stands c = grind (arith, new_stands)

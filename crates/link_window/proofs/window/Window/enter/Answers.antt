use Rattle.std.proofs.Common.{arith}
use Rattle.std.proofs.lemmas.Result.{on_ok_weaker}
use Rattle.link_model.proofs.WindowStands.{running_is, enters_runs, enters_stands, window_outcome_is}
use Rattle.link_window.proofs.window.Window.enter.Goals as goal

pub returns-clause-running : goal.returns-clause-running
returns-clause-running c = grind (arith, enters_runs, on_ok_weaker)

pub returns-clause-judged : goal.returns-clause-judged
returns-clause-judged c = grind (arith, running_is, window_outcome_is)

pub returns-clause-stands : goal.returns-clause-stands
returns-clause-stands c = grind (arith, enters_stands, on_ok_weaker, running_is)

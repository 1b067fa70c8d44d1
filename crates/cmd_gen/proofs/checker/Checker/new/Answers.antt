use Rattle.cmd_gen.proofs.Checked.{nothing_checked}
use Rattle.vc_types.specs.SenderSettings.{generating_view}
use Rattle.cmd_gen.proofs.checker.Checker.new.Goals as goal

pub returns-clause-checked : goal.returns-clause-checked
returns-clause-checked g c = nothing_checked (generating_view c.args.g.now) c.args.window _ c.new.ensures.heard c.new-2.ensures

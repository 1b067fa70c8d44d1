use Rattle.std.proofs.Common.{◌∙◌}
use Rattle.link_model.proofs.WindowStands.{next_is}
use Rattle.link_window.proofs.window.Window.next_release.Goals as goal

pub returns-clause-least : goal.returns-clause-least
returns-clause-least c = λ p stands. c.next.ensures ∙ next_is c.args.self.now p stands

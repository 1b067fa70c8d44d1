use Rattle.std.proofs.Common.{◌≡◌, sym, subst, rules}
use Rattle.link_model.specs.Windows.{Window, finishes, past_finishes, StandsForPast}
use Rattle.link_model.proofs.WindowStands.{finishes_stands}
use Rattle.link_window.proofs.window.Window.finish.Goals as goal

pub returns-clause-stands : goal.returns-clause-stands
returns-clause-stands c = λ p stands.
    let value : c.forget.new.self ≡ finishes c.args.self.now = search rules in
    subst (λ (v : Window). StandsForPast v (past_finishes p)) (sym value) (finishes_stands c.args.self.now p stands)

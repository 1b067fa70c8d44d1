use Rattle.std.proofs.Common.{◌≡◌, sym, subst, rules}
use Rattle.link_model.specs.Windows.{Window, releases, past_releases, StandsForPast}
use Rattle.link_model.proofs.WindowStands.{next_number, releases_stands}
use Rattle.link_window.proofs.window.Window.release.Goals as goal

pub returns-clause-stands : goal.returns-clause-stands
returns-clause-stands c = λ p stands.
    let w = c.args.self.now in
    let n = c.args.number in
    let value : c.forget.new.self ≡ releases w n = search rules in
    subst (λ (v : Window). StandsForPast v (past_releases p n)) (sym value) (releases_stands w p stands n (next_number w p stands n c.requires))

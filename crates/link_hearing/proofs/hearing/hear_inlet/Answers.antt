use Rattle.link_hearing.proofs.HeardEntries.{capture_heard}
use Rattle.link_hearing.proofs.hearing.hear_inlet.Goals as goal

pub returns-clause-borrows : goal.returns-clause-borrows
returns-clause-borrows g c =
    (capture_heard c.args.packets _ _ _ _ (g.met.L.Listener.loses_last _ _) _ _ _ _
    (rw c.requires.place at c.hear_all.ensures)).0

pub returns-clause-heard : goal.returns-clause-heard
returns-clause-heard g c =
    (capture_heard c.args.packets _ _ _ _ (g.met.L.Listener.loses_last _ _) _ _ _ _
    (rw c.requires.place at c.hear_all.ensures)).1

use Rattle.cmd_receive.proofs.Wanted.{one_wanted}
use Rattle.cmd_receive.proofs.session_playout.SessionPlayoutListener.hear.Goals as goal

pub returns-in-Ok-clause-heard : goal.returns-in-Ok-clause-heard
returns-in-Ok-clause-heard g c =
    let now = c.in-Ok.ensures in (
      (now.borrows_output, now.borrows_places),
      one_wanted _ _ _ _ _ c.in-Ok.outcome now.takes c.requires.wanted c.judge.ensures,
    )

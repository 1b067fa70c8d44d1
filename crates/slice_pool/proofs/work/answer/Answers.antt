use Rattle.std.proofs.Common.{sym, subst}
use Rattle.claim_board.specs.Seats.{worker_sees}
use Rattle.claim_board.specs.Views.{Holds}
use Rattle.vc_slice.specs.declared.run.RunJob.{RunJob}
use Rattle.slice_pool.proofs.work.answer.Goals as goal

pub complete-requires-clause-held : goal.complete-requires-clause-held
complete-requires-clause-held c =
    let held = c.args.claimed.held in
    subst (λ (job : RunJob). Holds (worker_sees c.args.seat.now) held.place held.serial job) (sym c.in_ok-done.ensures.job) c.requires.held.held

pub returns-clause-completed : goal.returns-clause-completed
returns-clause-completed c = (c.in_ok-done.done, c.in_ok-done.ensures.job, c.complete.ensures.did)

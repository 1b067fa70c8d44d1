use Rattle.std.proofs.Common.{◌∙◌, sym}
use Rattle.slice_ring.proofs.Completing.{wrong_serial, wrong_job}
use Rattle.slice_ring.proofs.place.RingPlace.complete.Goals as goal

pub returns-then-self-serial-clause-answer : goal.returns-then-self-serial-clause-answer
returns-then-self-serial-clause-answer c =
    c.stale-then-self-serial.ensures ∙ wrong_serial _ _ _ _ _ _ _ c.self.view_is c.in-Held.is c.if-self-serial.true

pub returns-then-not-same_job-clause-answer : goal.returns-then-not-same_job-clause-answer
returns-then-not-same_job-clause-answer c =
    wrong_job _ _ _ _ _ _ _ c.self.view_is c.in-Held.is c.if-self-serial.false (sym c.same_job.ensures ∙ c.if-not-same_job.true)

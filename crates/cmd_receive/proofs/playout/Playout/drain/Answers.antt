use Rattle.std.proofs.Common.{◌∙◌}
use Rattle.cmd_receive.proofs.Listened.{breaks_so, drains, stumbles_at_end}
use Rattle.cmd_receive.proofs.playout.Playout.drain.Goals as goal

pub returns-in-Ok-clause-takes : goal.returns-in-Ok-clause-takes
returns-in-Ok-clause-takes g c =
    let now = c.in-Ok.ensures in
    drains _ _ (record { asked = now.asked; well = λ w. now.below; later = now.cause.later }) _
    (λ form window ds h. now.wrote form window ds h)
    (λ form window ds h. c.tally.ensures ∙ now.counts form window ds h)

pub returns-in-Err-clause-takes : goal.returns-in-Err-clause-takes
returns-in-Err-clause-takes g c =
    let now = c.in-Err.ensures in
    rw c.fault_of.ensures (breaks_so c.in-Err.fault
    (stumbles_at_end _ _ (record { asked = now.asked; well = λ w. now.below; later = now.cause.later })
    (λ form window ds h. now.part form window ds h)) now.cause)

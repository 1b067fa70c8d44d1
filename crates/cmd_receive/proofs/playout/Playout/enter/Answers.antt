use Rattle.cmd_receive.proofs.Listened.{breaks_so, hears_one, stumbles_at}
use Rattle.cmd_receive.proofs.playout.Playout.enter.Goals as goal

pub returns-in-Ok-clause-takes : goal.returns-in-Ok-clause-takes
returns-in-Ok-clause-takes g c =
    let now = c.in-Ok.ensures in
    record {
      hears = hears_one _ _ (record { asked = now.asked; well = λ w. now.below; later = now.cause.later })
          _ (λ form window ds h. now.heard form window ds h) (λ form window ds h. now.wrote form window ds h)
          now.offered;
      judged = λ form window ds h. now.judged form window ds h;
    }

pub returns-in-Err-clause-takes : goal.returns-in-Err-clause-takes
returns-in-Err-clause-takes g c =
    let now = c.in-Err.ensures in
    rw c.fault_of.ensures (breaks_so c.in-Err.fault
    (stumbles_at _ _ (record { asked = now.asked; well = λ w. now.below; later = now.cause.later })
    _ (λ form window ds h. now.part form window ds h)) now.cause)

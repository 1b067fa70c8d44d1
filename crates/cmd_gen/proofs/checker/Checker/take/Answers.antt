use Rattle.cmd_gen.proofs.Checked.{one_checked}
use Rattle.link_receiver.specs.HeardLists.{AsFrames}
use Rattle.cmd_gen.proofs.checker.Checker.take.Goals as goal

pub returns-in-Ok-enter-clause-checked : goal.returns-in-Ok-enter-clause-checked
returns-in-Ok-enter-clause-checked g c = λ generating window heard is.
    one_checked generating window heard c.args.self.now is _ _ c.args.datagram.now
    (rw c.in-Ok.ensures at (c.in-Ok-enter.ensures.heard AsFrames window heard is.has_heard))
    (rw (c.in-Ok.ensures, c.new-written.ensures) at (c.in-Ok-enter.ensures.wrote AsFrames window heard is.has_heard))
    (rw c.deref.ensures.value at c.take.ensures)

use Rattle.std.proofs.Common.{◌∙◌}
use Rattle.cmd_gen.proofs.Checked.{all_checked}
use Rattle.link_receiver.specs.HeardLists.{AsFrames}
use Rattle.cmd_gen.proofs.checker.Checker.finish.Goals as goal

pub returns-in-Ok-clause-different : goal.returns-in-Ok-clause-different
returns-in-Ok-clause-different g c = λ generating window heard is.
    c.different.ensures
    ∙ all_checked generating window heard c.args.self.now is _ c.take.new.self
    (rw c.new-written.ensures at (c.in-Ok.ensures.wrote AsFrames window heard is.has_heard))
    (rw c.deref.ensures.value at c.take.ensures)

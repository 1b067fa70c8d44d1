use Rattle.std.proofs.Common.{refl, arith}
use Rattle.cmd_receive.proofs.Arriving.{was_kept}
use Rattle.cmd_receive.proofs.wire_inlet.WireInletInlet.note.Goals as goal

pub returns-then-was_of_use-clause-ready : goal.returns-then-was_of_use-clause-ready
returns-then-was_of_use-clause-ready g c = λ more ready. rw c.keep.ensures.told ready

pub returns-then-was_of_use-clause-none : goal.returns-then-was_of_use-clause-none
returns-then-was_of_use-clause-none g c =
    (refl, was_kept _ _ _ _ (omega (arith, c.keep.ensures.faults)) c.keep.ensures.told)

use Rattle.std.proofs.Common.{◌+◌, ◌∙◌, ap, arith, true, false}
use Rattle.claim_board.specs.Views.{lane}
use Rattle.claim_board.specs.declared.view.Lane.{Lane}
use Rattle.worked_tests.proofs.board.Fresh.goes_round.Goals as goal

pub returns : goal.returns
returns c = λ _.
    c.in-Ok.ensures.empty
    ∙ ap (λ (l : Lane). lane l.serial true false) c.put.ensures.out
    ∙ ap (λ (l : Lane). lane (l.serial + 1) true false) (c.requires 0 (omega arith))

use Rattle.std.proofs.Common.{pos, w32, FitsSigned, slice_index_or, [], ◌∙◌, rules}
use Rattle.std.proofs.lemmas.List.{take_all}
use Rattle.picture_encode.proofs.PushedNumbers.{pushed_more, widened_cast}
use Rattle.picture_encode.proofs.gathering.widened.Goals as goal

pub loop-number-preserved : goal.loop-number-preserved
loop-number-preserved c =
    let at = c.loop-number.number-index in
    let fits : FitsSigned w32 (slice_index_or c.args.numbers.now at (pos 0)) = search rules in
    pushed_more [] c.args.numbers.now _ _ at _ c.loop-number-test.true c.loop-number.invariant
    c.in_ok-push.ensures.items (widened_cast _ _ fits c.from.ensures)

pub returns : goal.returns
returns c = c.loop-number.invariant ∙ take_all c.loop-number.number-index c.args.numbers.now c.loop-number-test.false

use Rattle.std.proofs.Common.{w64, FitsSigned, arith, rules, ◌∙◌}
use Rattle.std.proofs.lemmas.Int.{to_z-of_z}
use Rattle.std.proofs.lemmas.List.{take_all}
use Rattle.picture_build.proofs.RowsWithin.{pushed_more}
use Rattle.picture_build.proofs.long.numbers_of.Goals as goal

pub loop-at-init : goal.loop-at-init
loop-at-init c = c.in_ok-numbers.ensures.items

pub get-requires : goal.get-requires
get-requires c = record { at = omega arith }

pub loop-at-preserved : goal.loop-at-preserved
loop-at-preserved c =
    let fits : FitsSigned w64 c.get.result = search rules in
    pushed_more c.args.cells.now _ _ c.loop-at.at _ (omega arith) c.loop-at.invariant c.in_ok-push.ensures.items
    (to_z-of_z w64 c.get.result fits ∙ c.get.ensures.value)

pub returns : goal.returns
returns c = c.loop-at.invariant ∙ take_all c.loop-at.at c.args.cells.now (omega arith)

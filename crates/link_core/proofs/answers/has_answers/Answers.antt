use Rattle.std.proofs.Common.{rules, ◌≡◌, ◌<◌, true}
use Rattle.std.specs.Prelude.{is_some}
use Rattle.std.specs.List.{list_all, range_with_len}
use Rattle.machine_model.specs.Feeders.{answer_in}
use Rattle.link_core.proofs.Ranges.{one_passes}
use Rattle.link_core.proofs.answers.has_answers.Goals as goal

pub loop-index-preserved : goal.loop-index-preserved
loop-index-preserved c =
    let less : c.loop-index.index < c.args.count = search rules in
    let passes : is_some (answer_in c.args.answers.now c.args.number c.loop-index.index) ≡ true = search rules in
    one_passes (λ i. is_some (answer_in c.args.answers.now c.args.number i)) c.loop-index.index c.args.count
    (list_all (λ i. is_some (answer_in c.args.answers.now c.args.number i)) (range_with_len 0 c.args.count)) less c.loop-index.invariant passes

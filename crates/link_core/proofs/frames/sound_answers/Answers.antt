use Rattle.std.proofs.Common.{rules, ◌≡◌, ◌<◌, ◌+◌, ◌∙◌, List, Some, ap, sym, subst}
use Rattle.std.specs.List.{range_with_len}
use Rattle.machine_model.specs.Feeders.{answer_in}
use Rattle.machine_model.specs.Feeding.{sound_answer, sound_answers}
use Rattle.vc_types.specs.Slices.{Coefficients}
use Rattle.link_core.proofs.SoundAnswers.{Left, left_more}
use Rattle.link_core.proofs.frames.sound_answers.Goals as goal

pub loop-index-preserved : goal.loop-index-preserved
loop-index-preserved c =
    let decoded = c.args.answers.now in
    let n = c.args.number in
    let i = c.loop-index.index in
    let all = sound_answers decoded n (range_with_len 0 c.args.count) in
    let less : i < c.args.count = search rules in
    let some : sound_answer (answer_in decoded n i) ≡ Some c.in_ok-copy.field-0 = ap sound_answer (sym c.in-Some.ensures) ∙ sym c.in-Some-coefficients.ensures ∙ ap Some (sym c.in_ok-copy.ensures) in
    subst (λ (l : List Coefficients). Left decoded n l (i + 1) c.args.count all) (sym c.in_ok-push.ensures.items)
    (left_more decoded n c.loop-index.slices.items i c.args.count all c.loop-index.invariant less c.in_ok-copy.field-0 some)

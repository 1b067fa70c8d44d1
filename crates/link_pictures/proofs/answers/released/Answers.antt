use Rattle.std.proofs.Common.{List, [], Option, Some, sym, ap, ◌∙◌}
use Rattle.std.specs.Option.{option_map_or}
use Rattle.receiver_model.specs.Receptions.{answer_at}
use Rattle.receiver_model.specs.Releasing.{answers_by}
use Rattle.link_pictures.specs.SeenAnswers.{part_answer}
use Rattle.vc_types.specs.declared.refusal.Unsound.{Unsound}
use Rattle.link_pictures.specs.Completing.{IsWholePlan, comes_to}
use Rattle.link_pictures.proofs.ReleasedPictures.{whole_slices, comes_own, planes_are}
use Rattle.link_pictures.proofs.SeenSlots.{part_seen}
use Rattle.vc_types.specs.TransformParameters.{Parameters, parameters_of}
use Rattle.link_pictures.proofs.answers.released.Goals as goal

pub planes-requires-clause-slices : goal.planes-requires-clause-slices
planes-requires-clause-slices g c =
    let p = parameters_of c.in-Some.plan in
    let book = c.args.book.now in
    let plan : IsWholePlan book (Some p) = rw c.in-Some.is at c.whole_plan.ensures in
    whole_slices book plan.0 plan.1 c.requires.whole.0 c.requires.whole.1 plan.3 p plan.2

pub returns-in_ok-planes-in-Some : goal.returns-in_ok-planes-in-Some
returns-in_ok-planes-in-Some g c =
    let p = parameters_of c.in-Some.plan in
    let book = c.args.book.now in
    let plan : IsWholePlan book (Some p) = rw c.in-Some.is at c.whole_plan.ensures in
    let n = c.args.number in
    let picture = c.in_ok-picture-in-Some.picture in
    let parts = c.into_parts-builder.result in
    let unsound = c.deref.result.now in
    record {
      planes = λ answers found.
          c.in_ok-planes-in-Some.ensures.value
          ∙ planes_are book plan.0 plan.1 answers n c.args.kept found c.requires.whole.0 c.requires.whole.1 plan.3 p plan.2
          (comes_to parts.builder unsound book)
          (comes_own book plan.0 plan.1 answers n c.args.kept found parts.builder unsound
          (sym c.into_parts-builder.ensures.value.0 ∙ c.in_ok-picture-in-Some.ensures.plan ∙ sym plan.2)
          (λ i. ap (λ (l : List (Option Unsound)). part_answer parts.builder l i) c.deref.ensures.value
          ∙ part_seen parts.builder parts.unsound.items c.into_parts-builder.ensures.entries picture.number i picture (sym c.into_parts-builder.ensures.value.1)
          ∙ c.in_ok-picture-in-Some.ensures.answers i
          ∙ ap (λ (q : Parameters). answer_at (option_map_or (answers_by q) c.args.kept []) i) (sym plan.2)));
    }

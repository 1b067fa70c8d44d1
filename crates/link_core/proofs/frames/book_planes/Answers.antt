use Rattle.std.proofs.Common.{rules, ◌≡◌, Some, sym, subst}
use Rattle.std.specs.List.{range_with_len}
use Rattle.machine_model.specs.Feeding.{sound_answers}
use Rattle.vc_types.specs.SequenceHeader.{picture_shape}
use Rattle.vc_types.specs.Subbands.{slice_count}
use Rattle.vc_types.specs.TransformParameters.{parameters_of}
use Rattle.frame_writer.specs.Shapes.{HaveShape}
use Rattle.picture_build.proofs.BuiltShapes.{built-shape}
use Rattle.link_core.proofs.SoundAnswers.{slices_count, slices_whole, plan_shape}
use Rattle.link_core.proofs.frames.book_planes.Goals as goal

pub build-requires-clause-count : goal.build-requires-clause-count
build-requires-clause-count c =
    let p = parameters_of c.in-Some.plan in
    let items = c.in-Some-2.slices.items in
    let sound : Some items ≡ sound_answers c.args.answers.now c.args.number (range_with_len 0 (slice_count p)) = search rules in
    slices_count c.args.answers.now c.args.number c.args.book.now p c.in-Some.ensures items sound

pub build-requires-clause-whole : goal.build-requires-clause-whole
build-requires-clause-whole c =
    let p = parameters_of c.in-Some.plan in
    let items = c.in-Some-2.slices.items in
    let sound : Some items ≡ sound_answers c.args.answers.now c.args.number (range_with_len 0 (slice_count p)) = search rules in
    slices_whole c.args.answers.now c.args.number c.args.book.now p c.in-Some.ensures items sound c.requires.answered.0 c.requires.answered.1

pub returns-clause-shape : goal.returns-clause-shape
returns-clause-shape c = λ s answered. (
    let p = parameters_of c.in-Some.plan in
    let items = c.in-Some-2.slices.items in
    let sound : Some items ≡ sound_answers c.args.answers.now c.args.number (range_with_len 0 (slice_count p)) = search rules in
    subst (HaveShape (picture_shape s)) (sym c.in_ok-build.ensures.value)
    (built-shape p items c.in-Some.plan.shape_is_coded (picture_shape s) (plan_shape c.args.answers.now c.args.number c.args.book.now p c.in-Some.ensures items sound s answered)))

use Rattle.std.proofs.Common.{rules, arith, ◌<◌, List, [], ◌∷◌, length, refl, ap, sym, ◌∙◌}
use Rattle.std.specs.Prelude.{slice_index_or}
use Rattle.std.proofs.lemmas.List.{length-append}
use Rattle.std.proofs.lemmas.Iterator.Adapters.{YieldsList-from_vec}
use Rattle.std.proofs.lemmas.Iterator.Consumers.{YieldsList-end, YieldsList-turn}
use Rattle.machine_model.specs.Places.{decoding}
use Rattle.receiver_model.specs.Receptions.{Decoding}
use Rattle.link_slices.specs.Jobs.{job_in_run}
use Rattle.vc_slice.proofs.RunDecodings.{decodings-at, decodings-length}
use Rattle.vc_types.specs.TransformParameters.{parameters_of}
use Rattle.link_pictures.proofs.RunAnswers.{takes_all, takes_more}
use Rattle.link_pictures.proofs.picture.PictureSlices.keep_each.Goals as goal

pub loop-answer-init : goal.loop-answer-init
loop-answer-init c = record { count = refl; value = refl }

pub keep_slice-requires-clause-within : goal.keep_slice-requires-clause-within
keep_slice-requires-clause-within c =
    let turn = YieldsList-turn (YieldsList-from_vec {s = c.into_iter-answer-iterator.result} c.args.answers.items (search rules) (search rules))
    c.loop-answer.yielded c.loop-answer.answer-iterator c.loop-answer.yielded_by c.next.result c.next.new.self c.in-Some.answer c.in-Some.is c.next.ensures.steps in
    let job = c.args.job.now in
    let long = ap length c.requires.decoded ∙ decodings-length (parameters_of job.plan) job.first job.slices.items in
    omega (arith, turn.0, long, c.loop-answer.invariant.count)

pub keep_slice-requires-clause-decoded : goal.keep_slice-requires-clause-decoded
keep_slice-requires-clause-decoded c =
    let turn = YieldsList-turn (YieldsList-from_vec {s = c.into_iter-answer-iterator.result} c.args.answers.items (search rules) (search rules))
    c.loop-answer.yielded c.loop-answer.answer-iterator c.loop-answer.yielded_by c.next.result c.next.new.self c.in-Some.answer c.in-Some.is c.next.ensures.steps in
    let job = c.args.job.now in
    let p = parameters_of job.plan in
    let answer = c.in-Some.answer in
    let long = ap length c.requires.decoded ∙ decodings-length p job.first job.slices.items in
    let below : length c.loop-answer.yielded < length job.slices.items = omega (arith, turn.0, long) in
    turn.1
    ∙ ap (λ (l : List Decoding). slice_index_or l (length c.loop-answer.yielded) answer) c.requires.decoded
    ∙ decodings-at p job.first job.slices.items (length c.loop-answer.yielded) answer below
    ∙ ap (λ k. decoding (job_in_run job k)) (sym c.loop-answer.invariant.count)

pub loop-answer-preserved : goal.loop-answer-preserved
loop-answer-preserved c =
    let turn = YieldsList-turn (YieldsList-from_vec {s = c.into_iter-answer-iterator.result} c.args.answers.items (search rules) (search rules))
    c.loop-answer.yielded c.loop-answer.answer-iterator c.loop-answer.yielded_by c.next.result c.next.new.self c.in-Some.answer c.in-Some.is c.next.ensures.steps in
    let job = c.args.job.now in
    let long = ap length c.requires.decoded ∙ decodings-length (parameters_of job.plan) job.first job.slices.items in
    record {
      count = omega (arith, c.loop-answer.invariant.count, length-append c.loop-answer.yielded (c.in-Some.answer ∷ []));
      value = takes_more _ _ _ job c.loop-answer.k (omega (arith, turn.0, long, c.loop-answer.invariant.count)) c.loop-answer.invariant.value c.in_ok-keep_slice.ensures.value;
    }

pub returns : goal.returns
returns c =
    let end = YieldsList-end (YieldsList-from_vec {s = c.into_iter-answer-iterator.result} c.args.answers.items (search rules) (search rules))
    c.loop-answer.yielded c.loop-answer.answer-iterator c.loop-answer.yielded_by c.next.result c.next.new.self c.in-None.is c.next.ensures.steps in
    let job = c.args.job.now in
    let long = ap length c.requires.decoded ∙ decodings-length (parameters_of job.plan) job.first job.slices.items in
    record { value = takes_all _ _ job c.loop-answer.k (omega (arith, end.1, long, c.loop-answer.invariant.count)) c.loop-answer.invariant.value }

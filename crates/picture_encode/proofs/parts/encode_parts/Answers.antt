use Rattle.std.proofs.Common.{◌≡◌, Err, List, ap, length, rules, sym, ◌∙◌}
use Rattle.std.proofs.lemmas.Iterator.Adapters.{YieldsList-from_vec}
use Rattle.std.proofs.lemmas.Iterator.Consumers.{YieldsList-turn, YieldsList-end}
use Rattle.vc_types.specs.Fields.{joined}
use Rattle.vc_types.specs.SenderSettings.{sending_view}
use Rattle.vc_types.specs.Subbands.{share_start, slice_count}
use Rattle.vc_types.specs.TransformParameters.{parameters_of}
use Rattle.picture_encode.specs.Answering.{Answers}
use Rattle.picture_encode.specs.IndexedSlices.{IndexedSlice}
use Rattle.picture_encode.specs.declared.refusal.SliceRefusal.TheVariants.{NoMemory}
use Rattle.picture_encode.proofs.SlicesInTurn.{none_encoded}
use Rattle.picture_encode.proofs.JoinedParts.{first_share, part_joined, part_refused, all_joined}
use Rattle.picture_encode.proofs.parts.encode_parts.Goals as goal

pub returns-in_err-answers : goal.returns-in_err-answers
returns-in_err-answers g c =
    let same : c.from_residual.result ≡ Err NoMemory = search rules in
    rw same (λ planes has. tt)

pub returns-in_err-runs : goal.returns-in_err-runs
returns-in_err-runs g c =
    let same : c.from_residual-in_err-runs.result ≡ Err NoMemory = search rules in
    rw same (λ planes has. tt)

pub loop-answer-init : goal.loop-answer-init
loop-answer-init g c = λ planes has.
    let n = slice_count (parameters_of c.args.plan.now) in
    none_encoded (Answers g.F.Fn (sending_view c.args.s.now) c.args.chooser.now) c.args.chooser.now.wants_lens (sending_view c.args.s.now) planes 0 (share_start n c.args.parts 0) (joined c.in_ok-runs.runs.items) (first_share n c.args.parts c.requires.some) (ap (λ (l : List (List IndexedSlice)). joined l) c.in_ok-runs.ensures.items)

pub returns-in_err-more : goal.returns-in_err-more
returns-in_err-more g c =
    let n = slice_count (parameters_of c.args.plan.now) in
    let answers = c.in_ok-answers.answers in
    let answer = c.in-Some.answer in
    let e = c.in_err-more.field-0.0 in
    let turn = YieldsList-turn (YieldsList-from_vec {s = c.into_iter-answer-iterator.result} answers.items (search rules) (search rules))
    c.loop-answer.yielded c.loop-answer.answer-iterator c.loop-answer.yielded_by c.next.result c.next.new.self answer c.in-Some.is c.next.ensures.steps in
    let same : c.from_residual-in_err-more.result ≡ Err e = search rules in
    rw same (λ planes has.
    part_refused (Answers g.F.Fn (sending_view c.args.s.now) c.args.chooser.now) c.args.chooser.now.wants_lens (sending_view c.args.s.now) planes n c.args.parts answers.items c.loop-answer.yielded answer (joined c.loop-answer.runs.items) c.requires.some
    (sym answers.ok.0 ∙ c.in_ok-answers.ensures.len) (λ part d below. c.in_ok-answers.ensures.each part d below planes has) turn (c.loop-answer.invariant planes has) e c.in_err-more.was)

pub returns-in_err-add : goal.returns-in_err-add
returns-in_err-add g c =
    let same : c.from_residual-in_err-add.result ≡ Err NoMemory = search rules in
    rw same (λ planes has. tt)

pub loop-answer-preserved : goal.loop-answer-preserved
loop-answer-preserved g c =
    let n = slice_count (parameters_of c.args.plan.now) in
    let answers = c.in_ok-answers.answers in
    let answer = c.in-Some.answer in
    let turn = YieldsList-turn (YieldsList-from_vec {s = c.into_iter-answer-iterator.result} answers.items (search rules) (search rules))
    c.loop-answer.yielded c.loop-answer.answer-iterator c.loop-answer.yielded_by c.next.result c.next.new.self answer c.in-Some.is c.next.ensures.steps in
    λ planes has.
    part_joined (Answers g.F.Fn (sending_view c.args.s.now) c.args.chooser.now) c.args.chooser.now.wants_lens (sending_view c.args.s.now) planes n c.args.parts answers.items c.loop-answer.yielded answer (joined c.loop-answer.runs.items) c.requires.some
    (sym answers.ok.0 ∙ c.in_ok-answers.ensures.len) (λ part d below. c.in_ok-answers.ensures.each part d below planes has) turn (c.loop-answer.invariant planes has) c.in_ok-more.more (joined c.add.new.runs.items) c.in_ok-more.was c.in_ok-add.ensures

pub returns : goal.returns
returns g c =
    let n = slice_count (parameters_of c.args.plan.now) in
    let answers = c.in_ok-answers.answers in
    let end = YieldsList-end (YieldsList-from_vec {s = c.into_iter-answer-iterator.result} answers.items (search rules) (search rules))
    c.loop-answer.yielded c.loop-answer.answer-iterator c.loop-answer.yielded_by c.next.result c.next.new.self c.in-None.is c.next.ensures.steps in
    λ planes has.
    all_joined (Answers g.F.Fn (sending_view c.args.s.now) c.args.chooser.now) c.args.chooser.now.wants_lens (sending_view c.args.s.now) planes n c.args.parts (length c.loop-answer.yielded) (joined c.loop-answer.runs.items) c.requires.some
    (end.1 ∙ sym answers.ok.0 ∙ c.in_ok-answers.ensures.len) (c.loop-answer.invariant planes has)

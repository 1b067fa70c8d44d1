use Rattle.std.proofs.Common.{◌≡◌, Err, rules}
use Rattle.vc_types.specs.SenderSettings.{sending_view}
use Rattle.vc_types.specs.Subbands.{slice_count}
use Rattle.vc_types.specs.TransformParameters.{parameters_of}
use Rattle.picture_encode.specs.Answering.{Answers}
use Rattle.picture_encode.specs.declared.refusal.SliceRefusal.TheVariants.{NoMemory}
use Rattle.picture_encode.proofs.SlicesInTurn.{one_run}
use Rattle.picture_encode.proofs.parts.encode_in_turn.Goals as goal

pub returns-in_err-slices : goal.returns-in_err-slices
returns-in_err-slices g c =
    let e = c.in_err-slices.field-0.0 in
    let same : c.from_residual.result ≡ Err e = search rules in
    rw same (λ planes has. c.in_err-slices.ensures planes has)

pub returns-in_err-runs : goal.returns-in_err-runs
returns-in_err-runs g c =
    let same : c.from_residual-in_err-runs.result ≡ Err NoMemory = search rules in
    rw same (λ planes has. tt)

pub returns-in_err-add : goal.returns-in_err-add
returns-in_err-add g c =
    let same : c.from_residual-in_err-add.result ≡ Err NoMemory = search rules in
    rw same (λ planes has. tt)

pub returns : goal.returns
returns g c = λ planes has.
    one_run (Answers g.F.Fn (sending_view c.args.s.now) c.args.chooser.now) c.args.chooser.now.wants_lens (sending_view c.args.s.now) planes (slice_count (parameters_of c.args.plan.now)) c.in_ok-slices.slices c.in_ok-runs.runs.items c.add.new.runs.items c.in_ok-runs.ensures.items c.in_ok-add.ensures (c.in_ok-slices.ensures planes has)

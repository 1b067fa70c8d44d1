use Rattle.std.proofs.Common.{◌≡◌, ℕ, Ok, Err, rules}
use Rattle.std.proofs.lemmas.Result.{err_from_is_err_and}
use Rattle.vc_lowdelay.proofs.Decodings.{has_all, planes_answer}
use Rattle.vc_lowdelay.proofs.decoding.wide_planes.Goals as goal

pub returns-in_err-picture-clause-refused : goal.returns-in_err-picture-clause-refused
returns-in_err-picture-clause-refused c =
    let same : c.from_residual.result ≡ Err c.in_err-picture.field-0.0 = search rules in
    rw same c.in_err-picture.ensures.refused

pub planes-requires : goal.planes-requires
planes-requires c = record { whole = has_all c.args.p.now c.args.bytes.now c.in_ok-picture.picture c.in_ok-picture.ensures.value }

pub returns-in_err-planes-clause-refused : goal.returns-in_err-planes-clause-refused
returns-in_err-planes-clause-refused c =
    let p = err_from_is_err_and c.from_residual-in_err-planes.result c.from_residual-in_err-planes.ensures.1 in
    rw (p.1, p.2) tt

pub returns-clause-value : goal.returns-clause-value
returns-clause-value c = planes_answer c.args.p.now c.args.bytes.now {E = ℕ} c.in_ok-picture.picture c.in_ok-picture.ensures.value c.in_ok-picture.ensures.sound (Ok c.in_ok-planes.field-0) c.in_ok-planes.ensures.value

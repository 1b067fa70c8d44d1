use Rattle.std.proofs.Common.{rules, ◌≡◌, ℕ, Err, IfErr, subst, sym}
use Rattle.std.specs.Prelude.{Result}
use Rattle.cmd_gen.specs.Looping.{IsOneRefused}
use Rattle.link_receiver.proofs.Asked.{asked_twice}
use Rattle.link_report.specs.declared.ending.Ending.{Ending}
use Rattle.vc_types.specs.SenderSettings.{generating_view}
use Rattle.cmd_gen.proofs.round_trip.RoundTrip.check_all.Goals as goal

pub returns-in_err-check_frames-clause-refused : goal.returns-in_err-check_frames-clause-refused
returns-in_err-check_frames-clause-refused g c = λ window checked.
    let end = c.in_err-check_frames.field-0.0 in
    let same : c.from_residual.result ≡ Err end = search (rules, c.from_residual.ensures) in
    subst (λ (r : Result ℕ Ending). IfErr r (IsOneRefused (generating_view c.args.g.now))) (sym same)
    (c.in_err-check_frames.ensures.value window checked)

pub returns-in-Ok-clause-checkable : goal.returns-in-Ok-clause-checkable
returns-in-Ok-clause-checkable g c = λ window checked. (c.in_ok-check_frames.ensures.value window checked).sent.sendable

pub returns-in-Ok-clause-different : goal.returns-in-Ok-clause-different
returns-in-Ok-clause-different g c = λ window checked. c.in-Ok.ensures.different (generating_view c.args.g.now) window (c.in_ok-check_frames.ensures.value window checked)

pub returns-in-Ok-clause-told : goal.returns-in-Ok-clause-told
returns-in-Ok-clause-told g c = asked_twice _ _ _ c.in_ok-check_frames.ensures.told c.in-Ok.ensures.told

pub returns-in-Err-clause-told : goal.returns-in-Err-clause-told
returns-in-Err-clause-told g c = asked_twice _ _ _ c.in_ok-check_frames.ensures.told c.in-Err.ensures.told

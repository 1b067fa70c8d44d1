use Rattle.std.proofs.Common.{rules, ◌≡◌, Err, subst, sym}
use Rattle.std.specs.Prelude.{Result}
use Rattle.cmd_gen.specs.Checking.{Checks}
use Rattle.cmd_gen.proofs.Ends.{compared, stopped}
use Rattle.link_report.specs.declared.ending.Ending.{Ending}
use Rattle.link_report.specs.declared.summary.Summary.{Summary}
use Rattle.vc_ports.specs.Changes.{changed}
use Rattle.vc_types.specs.SenderSettings.{generating_view}
use Rattle.cmd_gen.proofs.checking.check.Goals as goal

-- a frame is refused, or memory runs out
pub returns-in_err-different : goal.returns-in_err-different
returns-in_err-different g c =
    let end = c.in_err-different.field-0.0 in
    let same : c.from_residual.result ≡ Err end = search rules in
    subst (λ (r : Result Summary Ending). Checks (generating_view c.args.g.now) c.args.window c.args.workers r (changed g.P.Places.told c.args.hands.now c.check_by.new.places)) (sym same)
    (stopped (generating_view c.args.g.now) c.args.window c.args.workers _ _ _ c.in-Ok.ensures.told c.in_err-different.ensures.told end c.in_err-different.ensures.refused)

pub returns : goal.returns
returns g c =
    compared (generating_view c.args.g.now) c.args.window c.args.workers _ _ _ c.in-Ok.ensures.told c.in_ok-different.ensures.told
    _ _ _ c.in_ok-different.ensures.checkable c.from.ensures c.samples_of.ensures c.in_ok-different.ensures.different

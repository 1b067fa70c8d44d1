use Rattle.vc_types.specs.SenderSettings.{sending_view}
use Rattle.vc_types.specs.TransformParameters.{parameters_of}
use Rattle.picture_encode.proofs.Judged.{fit_is, budget_is}
use Rattle.picture_encode.proofs.slices.chosen.Goals as goal

pub returns-in-Fit-clause-value : goal.returns-in-Fit-clause-value
returns-in-Fit-clause-value c = λ planes same.
    let sent = c.args.sent.now in
    rw c.in-Fit.is (fit_is (sending_view sent.s.now) planes sent.parts.slice (parameters_of sent.parts.plan) c.args.coeffs.now sent.sent same c.in-Fit.bytes c.from.result c.least_index.result c.least_index.ensures.value c.from.ensures)

pub returns-in-Budget-clause-value : goal.returns-in-Budget-clause-value
returns-in-Budget-clause-value c = λ planes same.
    let sent = c.args.sent.now in
    rw c.in-Budget.is (budget_is (sending_view sent.s.now) planes sent.parts.slice (parameters_of sent.parts.plan) c.args.coeffs.now sent.sent same c.in-Budget.bytes c.budget_share.result c.least_index-in-Budget.result c.least_index-in-Budget.ensures.value c.budget_share.ensures)

use Rattle.std.proofs.Common.{◌≡◌, Err, rules, ◌∙◌}
use Rattle.vc_types.specs.SenderSettings.{sending_view}
use Rattle.vc_types.specs.TransformParameters.{parameters_of}
use Rattle.vc_types.proofs.SliceCounts.{some_across}
use Rattle.picture_encode.specs.Answering.{Answers}
use Rattle.picture_encode.proofs.Judged.{refused_at}
use Rattle.picture_encode.proofs.SmallNumbers.{coefficients_are}
use Rattle.picture_encode.proofs.slices.encode_slice.Goals as goal

pub returns-in_err-bytes-clause-refused : goal.returns-in_err-bytes-clause-refused
returns-in_err-bytes-clause-refused g c =
    let plan = c.args.sent.now.parts.plan in
    let p = parameters_of plan in
    let some = some_across plan.slices_x plan.slices_y plan.slices in
    let e = c.in_err-bytes.field-0.0 in
    let same : c.from_residual-in_err-bytes.result ≡ Err e = search rules in
    rw same (λ planes has.
    let own = c.in_ok-coeffs.ensures.value ∙ coefficients_are p planes c.args.grids.now c.args.sent.now.parts.slice some c.args.sent.now.parts.in_plan has in
    refused_at (Answers g.F.Fn (sending_view c.args.sent.now.s.now) c.args.chooser.now) c.args.chooser.now.wants_lens (sending_view c.args.sent.now.s.now) planes c.args.sent.now.parts.slice c.in_ok-index.index e (c.in_ok-index.ensures.answer planes own) (c.in_err-bytes.ensures.refused planes own))

pub returns-clause-encoded : goal.returns-clause-encoded
returns-clause-encoded g c =
    let plan = c.args.sent.now.parts.plan in
    let p = parameters_of plan in
    let some = some_across plan.slices_x plan.slices_y plan.slices in
    λ planes has.
    let own = c.in_ok-coeffs.ensures.value ∙ coefficients_are p planes c.args.grids.now c.args.sent.now.parts.slice some c.args.sent.now.parts.in_plan has in
    record { answer = c.in_ok-index.ensures.answer planes own; encoded = c.in_ok-bytes.ensures.encoded planes own }

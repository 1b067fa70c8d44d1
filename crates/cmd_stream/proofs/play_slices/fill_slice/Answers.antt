use Rattle.std.proofs.Common.{◌<◌, ◌∙◌, ap, sym, subst, arith}
use Rattle.std.proofs.lemmas.Grind.{common_steps}
use Rattle.picture_build.proofs.WholeSlices.{whole_slice}
use Rattle.vc_types.specs.Slices.{slice_coefficients}
use Rattle.vc_types.specs.Subbands.{slice_count}
use Rattle.vc_types.specs.TransformParameters.{Parameters, parameters_of}
use Rattle.vc_slice.specs.declared.job.SliceJob.{SliceJob}
use Rattle.cmd_stream.proofs.play_slices.fill_slice.Goals as goal

pub fill-requires-clause-in_plan : goal.fill-requires-clause-in_plan
fill-requires-clause-in_plan c = subst (λ (p : Parameters). c.args.job.index < slice_count p) (sym c.requires.plan) c.args.job.in_plan

pub fill-requires-clause-whole : goal.fill-requires-clause-whole
fill-requires-clause-whole c = grind (arith, common_steps, whole_slice)

pub returns-in-Ok : goal.returns-in-Ok
returns-in-Ok c =
    let same = ap (λ (j : SliceJob). slice_coefficients (parameters_of j.plan) j.index j.bytes) c.in_ok-answer.ensures.job in
    record { value = (c.in-Ok.coeffs, sym (c.in_ok-answer.field-0.decoded ∙ same) ∙ c.in-Ok.is, c.fill.ensures.value) }

pub returns-in-Err : goal.returns-in-Err
returns-in-Err c =
    let same = ap (λ (j : SliceJob). slice_coefficients (parameters_of j.plan) j.index j.bytes) c.in_ok-answer.ensures.job in
    record { value = (c.in-Err.field-0, sym (c.in_ok-answer.field-0.decoded ∙ same) ∙ c.in-Err.is) }

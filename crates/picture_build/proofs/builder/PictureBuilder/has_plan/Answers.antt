use Rattle.std.proofs.Common.{ap, ◌∙◌}
use Rattle.vc_types.specs.SameValues.{same_parameters}
use Rattle.vc_types.specs.TransformParameters.{Parameters, parameters_of}
use Rattle.picture_build.proofs.WaitingRuns.{seen-parameters}
use Rattle.picture_build.proofs.builder.PictureBuilder.has_plan.Goals as goal

pub returns : goal.returns
returns c =
    let s = c.self.inside in
    c.has_plan.ensures
    ∙ ap (λ (p : Parameters). same_parameters p (parameters_of c.args.plan.now)) (seen-parameters s.placed s.runs s.came.items c.self.invariant c.args.self.now c.self.view_is)

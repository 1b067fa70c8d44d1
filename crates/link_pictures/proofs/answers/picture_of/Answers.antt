use Rattle.std.proofs.Common.{sym, ◌∙◌}
use Rattle.link_pictures.proofs.ReleasedPictures.{of_plan_some, of_plan_new, new_plan}
use Rattle.vc_types.specs.TransformParameters.{parameters_of}
use Rattle.link_pictures.proofs.answers.picture_of.Goals as goal

pub returns-in-Some-clause-plan : goal.returns-in-Some-clause-plan
returns-in-Some-clause-plan c = (of_plan_some (parameters_of c.args.plan) c.args.kept c.in-Some.picture (sym c.of_plan.ensures ∙ c.in-Some.is)).0

pub returns-in-Some-clause-answers : goal.returns-in-Some-clause-answers
returns-in-Some-clause-answers c = (of_plan_some (parameters_of c.args.plan) c.args.kept c.in-Some.picture (sym c.of_plan.ensures ∙ c.in-Some.is)).1

pub returns-in-None-clause-plan : goal.returns-in-None-clause-plan
returns-in-None-clause-plan c = new_plan (parameters_of c.args.plan) c.args.number c.new.result c.new.ensures.value

pub returns-in-None-clause-answers : goal.returns-in-None-clause-answers
returns-in-None-clause-answers c = of_plan_new (parameters_of c.args.plan) c.args.number c.args.kept c.new.result (sym c.of_plan.ensures ∙ c.in-None.is) c.new.ensures.value

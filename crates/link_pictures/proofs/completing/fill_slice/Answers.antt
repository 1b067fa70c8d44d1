use Rattle.std.proofs.Common.{◌<◌, sym, subst, arith}
use Rattle.picture_build.proofs.WholeSlices.{whole_slice}
use Rattle.vc_types.specs.Subbands.{slice_count}
use Rattle.vc_types.specs.TransformParameters.{Parameters}
use Rattle.link_pictures.proofs.completing.fill_slice.Goals as goal

pub fill-requires-clause-in_plan : goal.fill-requires-clause-in_plan
fill-requires-clause-in_plan c = subst (λ (p : Parameters). c.args.job.index < slice_count p) (sym c.requires.plan) c.args.job.in_plan

pub fill-requires-clause-whole : goal.fill-requires-clause-whole
fill-requires-clause-whole c = grind (arith, whole_slice)

pub returns-in-Ok : goal.returns-in-Ok
returns-in-Ok c = grind arith

pub returns-in-Err : goal.returns-in-Err
returns-in-Err c = grind arith

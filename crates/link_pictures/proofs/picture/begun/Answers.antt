use Rattle.std.proofs.Common.{arith}
use Rattle.vc_types.proofs.SameValues.{parameters_exactly}
use Rattle.link_pictures.proofs.picture.begun.Goals as goal

pub returns-then-has_plan : goal.returns-then-has_plan
returns-then-has_plan c = grind (arith, parameters_exactly)

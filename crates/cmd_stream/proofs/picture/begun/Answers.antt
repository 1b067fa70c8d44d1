use Rattle.std.proofs.Common.{arith}
use Rattle.std.proofs.lemmas.Grind.{common_steps}
use Rattle.vc_types.proofs.SameValues.{parameters_exactly}
use Rattle.cmd_stream.proofs.picture.begun.Goals as goal

pub returns-then-has_plan : goal.returns-then-has_plan
returns-then-has_plan c = grind (arith, common_steps, parameters_exactly)

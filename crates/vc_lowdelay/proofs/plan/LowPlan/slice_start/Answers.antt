use Rattle.std.proofs.Common.{arith}
use Rattle.vc_lowdelay.proofs.SliceStarts.{few_bytes}
use Rattle.vc_lowdelay.proofs.plan.LowPlan.slice_start.Goals as goal

pub overflow_mul-result : goal.overflow_mul-result
overflow_mul-result c = let few = few_bytes c.from.result c.from-2.result (omega arith) (omega arith) in omega arith

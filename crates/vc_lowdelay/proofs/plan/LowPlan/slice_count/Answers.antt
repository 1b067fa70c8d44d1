use Rattle.std.proofs.Common.{arith}
use Rattle.vc_lowdelay.proofs.SliceStarts.{few_in_plan}
use Rattle.vc_lowdelay.proofs.plan.LowPlan.slice_count.Goals as goal

pub overflow_mul-result : goal.overflow_mul-result
overflow_mul-result c = let few = few_in_plan c.args.self.now in omega arith

pub returns-clause-range : goal.returns-clause-range
returns-clause-range c = few_in_plan c.args.self.now

use Rattle.std.proofs.Common.{arith}
use Rattle.vc_types.proofs.SubbandOrder.{length-subbands}
use Rattle.vc_geometry.proofs.subbands.bands.Goals as goal

pub returns-clause-value : goal.returns-clause-value
returns-clause-value c = let count = length-subbands c.args.plan.now.depth_ho c.args.plan.now.depth in omega (arith, count)

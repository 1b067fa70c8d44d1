use Rattle.std.proofs.Common.{arith}
use Rattle.std.proofs.lemmas.Int.{to_z-of_z}
use Rattle.std.proofs.lemmas.List.{take_all}
use Rattle.vc_slice.proofs.RunLengths.{one_counted}
use Rattle.vc_slice.proofs.thresholds.reaching.Goals as goal

pub loop-coefficient-preserved : goal.loop-coefficient-preserved
loop-coefficient-preserved c = grind (arith, to_z-of_z, one_counted c.args.quarters c.loop-coefficient.coefficient-index c.loop-coefficient.count c.reaches-count.result c.args.coefficients.now)

pub returns-clause-value : goal.returns-clause-value
returns-clause-value c = grind (arith, take_all)

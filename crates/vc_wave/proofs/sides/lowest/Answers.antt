use Rattle.std.proofs.Common.{arith}
use Rattle.std.proofs.Math.Nat.{div-le_self}
use Rattle.vc_wave.proofs.Grids.{padded_some}
use Rattle.vc_wave.proofs.sides.lowest.Goals as goal

pub returns-clause-some : goal.returns-clause-some
returns-clause-some c = grind (arith, padded_some)

pub returns-clause-narrow : goal.returns-clause-narrow
returns-clause-narrow c = grind (arith, div-le_self)

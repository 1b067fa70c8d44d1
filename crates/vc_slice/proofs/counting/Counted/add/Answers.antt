use Rattle.std.proofs.Common.{arith}
use Rattle.std.proofs.lemmas.Int.{to_z-of_z}
use Rattle.vc_slice.proofs.BlockCodes.{behind_zero, length_other}
use Rattle.vc_slice.proofs.counting.Counted.add.Goals as goal

pub returns-then-number-eq0-clause-bits : goal.returns-then-number-eq0-clause-bits
returns-then-number-eq0-clause-bits c = grind (arith, behind_zero)

pub returns-else-number-eq0-clause-bits : goal.returns-else-number-eq0-clause-bits
returns-else-number-eq0-clause-bits c = grind (arith, to_z-of_z, length_other)

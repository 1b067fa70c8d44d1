use Rattle.std.proofs.Common.{arith}
use Rattle.std.proofs.lemmas.Int.{to_z-of_z}
use Rattle.vc_slice.proofs.BlockCodes.{behind_zero, written_number}
use Rattle.vc_slice.proofs.writing.write_number.Goals as goal

pub returns-then-number-eq0-clause-codes : goal.returns-then-number-eq0-clause-codes
returns-then-number-eq0-clause-codes c = grind (arith, behind_zero)

pub returns-clause-codes : goal.returns-clause-codes
returns-clause-codes c = grind (arith, written_number, to_z-of_z)

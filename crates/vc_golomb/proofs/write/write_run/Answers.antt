use Rattle.std.proofs.Common.{arith, append_assoc}
use Rattle.std.proofs.lemmas.Int.{to_z-of_z}
use Rattle.std.proofs.lemmas.Result.{on_ok_weaker}
use Rattle.vc_golomb.proofs.write.write_run.Goals as goal

pub returns : goal.returns
returns c = grind (arith, to_z-of_z, on_ok_weaker, append_assoc)

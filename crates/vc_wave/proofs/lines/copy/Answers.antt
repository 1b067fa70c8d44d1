use Rattle.std.proofs.Common.{arith}
use Rattle.std.proofs.lemmas.Int.{to_z-of_z}
use Rattle.std.proofs.lemmas.List.{get_or-set_same, get_or-set_other}
use Rattle.vc_wave.proofs.Copies.{not_between}
use Rattle.vc_wave.proofs.lines.copy.Goals as goal

pub loop-x-preserved : goal.loop-x-preserved
loop-x-preserved c = grind (arith, get_or-set_same, to_z-of_z, get_or-set_other, not_between)

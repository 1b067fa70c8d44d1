use Rattle.std.proofs.Common.{arith}
use Rattle.vc_wave.proofs.forward_bounds.forward_fits_narrow.Goals as goal

pub returns : goal.returns
returns c = grind arith

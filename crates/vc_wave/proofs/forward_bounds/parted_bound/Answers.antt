use Rattle.std.proofs.Common.{arith}
use Rattle.vc_wave.specs.ForwardBounds.{parted_level_bound}
use Rattle.vc_wave.proofs.CarriedBounds.{bound_start, bound_next, none_after}
use Rattle.vc_wave.proofs.forward_bounds.parted_bound.Goals as goal

pub loop-level-init : goal.loop-level-init
loop-level-init c = record {
  same = bound_start
      (parted_level_bound c.args.wavelet) c.args.most;
  small = c.requires.most;
}

pub returns-in_err-bound : goal.returns-in_err-bound
returns-in_err-bound c = grind (arith, none_after, bound_next)

pub loop-level-preserved : goal.loop-level-preserved
loop-level-preserved c = grind (arith, bound_next)

use Rattle.std.proofs.Common.{◌≡◌, ◌^◌, ◌<◌, Some}
use Rattle.vc_wave.specs.ForwardBounds.{parted_level_bound}
use Rattle.vc_wave.specs.NarrowBounds.{bound_over}
use Rattle.vc_wave.proofs.forward_bounds.parted_bound.Given as goal

abbrev pub invariant-loop-level : goal.invariant-loop-level
invariant-loop-level l = record {
  same : bound_over (parted_level_bound l.wavelet) l.level l.most ≡ Some l.bound;
  small : l.bound < 2 ^ 31;
}

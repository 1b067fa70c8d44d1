use Rattle.std.proofs.Common.{refl}
use Rattle.cmd_gen.proofs.RawSamples.{nothing_came}
use Rattle.cmd_gen.proofs.comparison.Comparison.new.Goals as goal

pub returns : goal.returns
returns c = nothing_came c.args.g.now c.frame_shape-shape.result _ c.from.result c.samples_of.result c.is_wide.result c.frame_shape-shape.ensures.value refl c.from.ensures c.samples_of.ensures c.is_wide.ensures

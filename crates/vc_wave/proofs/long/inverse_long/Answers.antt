use Rattle.std.proofs.Common.{arith}
use Rattle.vc_wave.proofs.long.inverse_long.Goals as goal

pub merge_component-requires : goal.merge_component-requires
merge_component-requires c = record { room = grind arith }

pub returns : goal.returns
returns c = λ fits. rw c.padded-width.ensures.width at (c.merge_component.ensures fits)

use Rattle.std.proofs.lemmas.Grind.{common_steps}
use Rattle.std.proofs.Common.{arith}
use Rattle.vc_slice.proofs.PaddedBlocks.{grown, headed, three_put}
use Rattle.vc_slice.proofs.blocks.joined.Goals as goal

pub returns : goal.returns
returns c = grind (arith, common_steps, grown, headed, three_put)

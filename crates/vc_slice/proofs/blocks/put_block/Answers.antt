use Rattle.std.proofs.lemmas.Grind.{common_steps}
use Rattle.std.proofs.Common.{arith}
use Rattle.vc_slice.proofs.PaddedBlocks.{grown, put}
use Rattle.vc_slice.proofs.blocks.put_block.Goals as goal

pub returns : goal.returns
returns c = grind (arith, common_steps, put, grown)

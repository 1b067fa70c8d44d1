use Rattle.std.proofs.Common.{arith}
use Rattle.vc_slice.proofs.PaddedBlocks.{filled_codes}
use Rattle.vc_slice.proofs.encode_room.EncodeRoom.codes_of.Goals as goal

pub returns-in_ok-align-in-Wide : goal.returns-in_ok-align-in-Wide
returns-in_ok-align-in-Wide c = grind (arith, filled_codes)

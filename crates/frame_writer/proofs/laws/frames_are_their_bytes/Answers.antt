use Rattle.frame_writer.proofs.ReadBack.{frame_back}
use Rattle.frame_writer.proofs.laws.frames_are_their_bytes.Goals as goal

pub returns : goal.returns
returns c = frame_back

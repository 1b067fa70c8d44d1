use Rattle.cmd_gen.proofs.WholeFrames.{no_differences}
use Rattle.cmd_gen.proofs.laws.whole_frames_have_no_differences.Goals as goal

pub returns : goal.returns
returns c = no_differences

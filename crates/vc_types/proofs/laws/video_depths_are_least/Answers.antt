use Rattle.vc_types.proofs.VideoDepths.{is_least}
use Rattle.vc_types.proofs.laws.video_depths_are_least.Goals as goal

pub returns : goal.returns
returns c = is_least

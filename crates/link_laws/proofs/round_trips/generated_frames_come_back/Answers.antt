-- The law is told as it is proved.
use Rattle.link_laws.proofs.GeneratedBack.{generated_frames_come_back}
use Rattle.link_laws.proofs.round_trips.generated_frames_come_back.Goals as goal

pub returns : goal.returns
returns c = generated_frames_come_back

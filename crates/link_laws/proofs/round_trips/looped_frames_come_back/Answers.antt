-- The law is told as it is proved.
use Rattle.link_laws.proofs.LoopedBack.{looped_frames_come_back}
use Rattle.link_laws.proofs.round_trips.looped_frames_come_back.Goals as goal

pub returns : goal.returns
returns c = looped_frames_come_back

-- The law is told as it is proved.
use Rattle.link_laws.proofs.ComingBack.{encoded_frames_come_back}
use Rattle.link_laws.proofs.round_trips.encoded_frames_come_back.Goals as goal

pub returns : goal.returns
returns c = encoded_frames_come_back

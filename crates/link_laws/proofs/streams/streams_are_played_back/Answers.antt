-- The law is told as it is proved.
use Rattle.link_laws.proofs.PlayedBack.{streams_are_played_back}
use Rattle.link_laws.proofs.streams.streams_are_played_back.Goals as goal

pub returns : goal.returns
returns c = streams_are_played_back

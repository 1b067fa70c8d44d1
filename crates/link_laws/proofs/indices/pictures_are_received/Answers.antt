-- The law is told as it is proved.
use Rattle.link_laws.proofs.ReceivedLaws.{pictures_are_received}
use Rattle.link_laws.proofs.indices.pictures_are_received.Goals as goal

pub returns : goal.returns
returns c = pictures_are_received

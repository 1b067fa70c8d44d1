-- The law is told as it is proved.
use Rattle.link_laws.proofs.ReceivedLaws.{pictures_come_back}
use Rattle.link_laws.proofs.indices.pictures_come_back.Goals as goal

pub returns : goal.returns
returns c = pictures_come_back

-- The law is told as it is proved.
use Rattle.link_laws.proofs.ReceivedLaws.{sent_streams_come_back}
use Rattle.link_laws.proofs.indices.sent_streams_come_back.Goals as goal

pub returns : goal.returns
returns c = sent_streams_come_back

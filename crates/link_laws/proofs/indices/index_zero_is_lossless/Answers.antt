-- The law is told as it is proved.
use Rattle.link_laws.proofs.ReceivedLaws.{index_zero_is_lossless}
use Rattle.link_laws.proofs.indices.index_zero_is_lossless.Goals as goal

pub returns : goal.returns
returns c = index_zero_is_lossless

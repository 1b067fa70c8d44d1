use Rattle.rtcp_reports.proofs.WrittenCompounds.{none_is_read, one_is_read, block_is_read, sender_is_read}
use Rattle.rtcp_reports.proofs.laws.what_is_written_is_read.Goals as goal

pub returns-clause-none : goal.returns-clause-none
returns-clause-none c = none_is_read

pub returns-clause-one : goal.returns-clause-one
returns-clause-one c = one_is_read

pub returns-clause-block : goal.returns-clause-block
returns-clause-block c = block_is_read

pub returns-clause-sender : goal.returns-clause-sender
returns-clause-sender c = sender_is_read

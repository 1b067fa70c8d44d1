use Rattle.pcap_in.proofs.Records.{record-written}
use Rattle.pcap_in.proofs.laws.written_record_is_read.Goals as goal

pub returns : goal.returns
returns c = record-written

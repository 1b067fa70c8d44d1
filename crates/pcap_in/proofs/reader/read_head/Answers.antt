use Rattle.std.proofs.Common.{◌∙◌, sym}
use Rattle.pcap_in.proofs.RecordSteps.{whole_head, no_read_fault, cut_head, fault_in_file_head}
use Rattle.pcap_in.proofs.reader.read_head.Goals as goal

pub returns-in-Whole-clause-reads : goal.returns-in-Whole-clause-reads
returns-in-Whole-clause-reads g c = rw c.ok_or.ensures.value (whole_head _ _ c.fill.new.buf c.file_head.result c.fill.auto.buf c.in-Whole.ensures.bytes c.file_head.ensures)

pub returns-in-Whole-clause-cause : goal.returns-in-Whole-clause-cause
returns-in-Whole-clause-cause g c = record {
  later = c.in-Whole.ensures.cause.later;
  rose = λ fault. absurd (no_read_fault c.file_head.result (sym c.ok_or.ensures.value ∙ fault));
}

pub returns-in-End-clause-reads : goal.returns-in-End-clause-reads
returns-in-End-clause-reads g c = cut_head _ _ c.fill.new.buf c.in-End.field-0 c.fill.auto.buf c.in-End.ensures.bytes

pub returns-in-Failed-clause-reads : goal.returns-in-Failed-clause-reads
returns-in-Failed-clause-reads g c = fault_in_file_head _ _ c.fill.new.buf c.in-Failed.field-0 c.fill.auto.buf c.in-Failed.ensures.bytes

use Rattle.std.proofs.Common.{◌≡◌, length, drop, arith, refl, sym}
use Rattle.std.proofs.Math.Seq.{take-append_seam}
use Rattle.pcap_in.proofs.RecordSteps.{cut_in_head, fault_in_head, too_long, part_without_memory, whole_record, cut_in_kept, fault_in_kept}
use Rattle.pcap_in.proofs.reader.read_record.Goals as goal

pub returns-in-End-clause-reads : goal.returns-in-End-clause-reads
returns-in-End-clause-reads g c = (refl, cut_in_head _ _ c.args.order c.fill.new.buf c.in-End.field-0 c.fill.auto.buf (c.in-End.field-0-test.1) c.in-End.ensures.bytes)

pub returns-in-Failed-clause-reads : goal.returns-in-Failed-clause-reads
returns-in-Failed-clause-reads g c = fault_in_head _ _ c.args.order c.fill.new.buf c.in-Failed.field-0 c.fill.auto.buf c.in-Failed.ensures.bytes

pub returns-then-count-gt-MOST_KEPT-clause-reads : goal.returns-then-count-gt-MOST_KEPT-clause-reads
returns-then-count-gt-MOST_KEPT-clause-reads g c = (refl, too_long _ _ c.args.order c.fill.new.buf c.kept_length-count.result c.fill.auto.buf (sym c.kept_length-count.ensures) (omega arith) c.in-Whole.ensures.bytes)

pub returns-in-Err-clause-reads : goal.returns-in-Err-clause-reads
returns-in-Err-clause-reads g c = part_without_memory _ _ c.args.order c.fill.new.buf c.kept_length-count.result c.fill.auto.buf (sym c.kept_length-count.ensures) (omega arith) (omega (arith, c.in-Err.ensures.full)) c.in-Whole.ensures.bytes

pub returns-in-Whole-fill-clause-reads : goal.returns-in-Whole-fill-clause-reads
returns-in-Whole-fill-clause-reads g c =
    let kept = c.fill-2.new.buf in
    let len : length kept ≡ c.kept_length-count.result = omega (arith, c.fill-2.auto.buf, c.deref_mut.ensures.len, c.in-Ok.ensures.len) in
    let room : c.resize.new.self.len ≡ length kept = omega (arith, len, c.in-Ok.ensures.len) in
    rw (room, take-append_seam kept (drop (length kept) c.resize.new.self.items))
    (whole_record _ _ _ c.args.order c.fill.new.buf kept c.kept_length-count.result c.fill.auto.buf (sym c.kept_length-count.ensures) (omega arith) len c.in-Whole.ensures.bytes c.in-Whole-fill.ensures.bytes)

pub returns-in-Whole-fill-clause-grows : goal.returns-in-Whole-fill-clause-grows
returns-in-Whole-fill-clause-grows g c =
    let kept = c.fill-2.new.buf in
    let len : length kept ≡ c.kept_length-count.result = omega (arith, c.fill-2.auto.buf, c.deref_mut.ensures.len, c.in-Ok.ensures.len) in
    let room : c.resize.new.self.len ≡ length kept = omega (arith, len, c.in-Ok.ensures.len) in
    rw (room, take-append_seam kept (drop (length kept) c.resize.new.self.items)) (omega (arith, len))

pub returns-in-End-fill-clause-reads : goal.returns-in-End-fill-clause-reads
returns-in-End-fill-clause-reads g c = (
  refl,
  cut_in_kept _ _ _ c.args.order c.fill.new.buf c.fill-2.new.buf c.kept_length-count.result c.in-End-fill.field-0 c.fill.auto.buf (sym c.kept_length-count.ensures) (omega arith)
      (omega (arith, c.fill-2.auto.buf, c.deref_mut.ensures.len, c.in-Ok.ensures.len)) c.in-Whole.ensures.bytes c.in-End-fill.ensures.bytes,
)

pub returns-in-Failed-fill-clause-reads : goal.returns-in-Failed-fill-clause-reads
returns-in-Failed-fill-clause-reads g c = fault_in_kept _ _ _ c.args.order c.fill.new.buf c.fill-2.new.buf c.kept_length-count.result c.in-Failed-fill.field-0 c.fill.auto.buf (sym c.kept_length-count.ensures) (omega arith)
    (omega (arith, c.fill-2.auto.buf, c.deref_mut.ensures.len, c.in-Ok.ensures.len)) c.in-Whole.ensures.bytes c.in-Failed-fill.ensures.bytes

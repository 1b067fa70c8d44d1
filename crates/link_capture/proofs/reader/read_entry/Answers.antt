use Rattle.std.proofs.Common.{◌≡◌, length, drop, arith, refl}
use Rattle.std.proofs.Math.Seq.{take-append_seam}
use Rattle.link_capture.proofs.EntrySteps.{cut_in_length, fault_in_length, part_without_memory, whole_entry, cut_in_datagram, fault_in_datagram}
use Rattle.link_capture.proofs.reader.read_entry.Goals as goal

pub returns-in-End-clause-entry : goal.returns-in-End-clause-entry
returns-in-End-clause-entry g c = (refl, cut_in_length _ _ c.fill.new.buf c.in-End.field-0 c.fill.auto.buf (c.in-End.field-0-test.1) c.in-End.ensures.bytes)

pub returns-in-Failed-clause-entry : goal.returns-in-Failed-clause-entry
returns-in-Failed-clause-entry g c = fault_in_length _ _ c.fill.new.buf c.in-Failed.field-0 c.fill.auto.buf c.in-Failed.ensures.bytes

pub returns-in-Err-clause-entry : goal.returns-in-Err-clause-entry
returns-in-Err-clause-entry g c = part_without_memory _ _ c.length_told.result (omega arith) (omega (arith, c.from.ensures, c.in-Err.ensures.full)) (rw c.length_told.ensures at c.in-Whole.ensures.bytes)

pub returns-in-Whole-fill-clause-entry : goal.returns-in-Whole-fill-clause-entry
returns-in-Whole-fill-clause-entry g c =
    let datagram = c.fill-2.new.buf in
    let len : length datagram ≡ c.length_told.result = omega (arith, c.fill-2.auto.buf, c.deref_mut.ensures.len, c.in-Ok.ensures.len, c.from.ensures) in
    let room : c.resize.new.self.len ≡ length datagram = omega (arith, len, c.in-Ok.ensures.len, c.from.ensures) in
    rw (room, take-append_seam datagram (drop (length datagram) c.resize.new.self.items))
    (omega arith, whole_entry _ _ _ c.length_told.result datagram len (rw c.length_told.ensures at c.in-Whole.ensures.bytes) c.in-Whole-fill.ensures.bytes)

pub returns-in-End-fill-clause-entry : goal.returns-in-End-fill-clause-entry
returns-in-End-fill-clause-entry g c = (refl, cut_in_datagram _ _ _ c.length_told.result c.fill-2.new.buf c.in-End-fill.field-0 (omega arith) (omega (arith, c.fill-2.auto.buf, c.deref_mut.ensures.len, c.in-Ok.ensures.len, c.from.ensures)) (rw c.length_told.ensures at c.in-Whole.ensures.bytes) c.in-End-fill.ensures.bytes)

pub returns-in-Failed-fill-clause-entry : goal.returns-in-Failed-fill-clause-entry
returns-in-Failed-fill-clause-entry g c = fault_in_datagram _ _ _ c.length_told.result c.fill-2.new.buf c.in-Failed-fill.field-0 (omega arith) (omega (arith, c.fill-2.auto.buf, c.deref_mut.ensures.len, c.in-Ok.ensures.len, c.from.ensures)) (rw c.length_told.ensures at c.in-Whole.ensures.bytes) c.in-Failed-fill.ensures.bytes

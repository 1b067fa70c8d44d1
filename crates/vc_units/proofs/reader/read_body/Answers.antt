use Rattle.std.proofs.Common.{arith}
use Rattle.vc_units.proofs.UnitSteps.{cut_in_part, fault_in_part}
use Rattle.vc_units.proofs.reader.read_body.Goals as goal

pub returns-in-End-clause-body : goal.returns-in-End-clause-body
returns-in-End-clause-body g c = cut_in_part _ _ _ c.parts.body.items c.fill.new.buf c.args.count c.in-End.field-0
    (omega (arith, c.fill.auto.buf, c.deref_mut.ensures.len, c.in-Ok.ensures.len, c.len-from.ensures, c.len.ensures, c.min.ensures, c.parts-test.true)) c.parts.invariant.gave c.in-End.ensures.bytes

pub returns-in-Failed-clause-body : goal.returns-in-Failed-clause-body
returns-in-Failed-clause-body g c = fault_in_part _ _ _ c.parts.body.items c.fill.new.buf c.args.count c.in-Failed.field-0
    (omega (arith, c.fill.auto.buf, c.deref_mut.ensures.len, c.in-Ok.ensures.len, c.len-from.ensures, c.len.ensures, c.min.ensures, c.parts-test.true)) c.parts.invariant.gave c.in-Failed.ensures.bytes

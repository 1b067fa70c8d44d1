use Rattle.std.proofs.Common.{rules, ◌∙◌, Ok, Err, ◌≡◌, refl, sym}
use Rattle.vc_units.specs.declared.fault.UnitFault.TheVariants.{ReadFault}
use Rattle.vc_units.proofs.UnitSteps.{cut_in_info, fault_in_info, fault_is, no_read_fault, refused_info, refused_body, whole_unit}
use Rattle.vc_units.proofs.reader.read_unit.Goals as goal

pub returns-in-End-clause-unit : goal.returns-in-End-clause-unit
returns-in-End-clause-unit g c = cut_in_info _ _ c.fill.new.buf c.in-End.field-0 c.fill.auto.buf (c.in-End.field-0-test.1) c.in-End.ensures.bytes

pub returns-in-Failed-clause-unit : goal.returns-in-Failed-clause-unit
returns-in-Failed-clause-unit g c = fault_in_info _ _ c.fill.new.buf c.in-Failed.field-0 c.fill.auto.buf c.in-Failed.ensures.bytes

pub returns-in_err-count-clause-unit : goal.returns-in_err-count-clause-unit
returns-in_err-count-clause-unit g c =
    let same : c.from_residual.result ≡ Err c.in_err-count.field-0.0 = search rules in
    rw same (refused_info _ _ c.args.place c.fill.new.buf c.in_err-count.field-0.0 c.fill.auto.buf c.in-Whole.ensures.bytes (sym c.in_err-count.ensures.value))

pub returns-in_err-count-clause-cause : goal.returns-in_err-count-clause-cause
returns-in_err-count-clause-cause g c =
    let same : c.from_residual.result ≡ Err c.in_err-count.field-0.0 = search rules in
    record {
      later = c.in-Whole.ensures.cause.later;
      rose = λ fault. absurd (no_read_fault c.fill.new.buf c.in_err-count.field-0.0 (sym c.in_err-count.ensures.value) (fault_is c.in_err-count.field-0.0 ReadFault (sym same ∙ fault)));
    }

pub returns-in_err-body-clause-unit : goal.returns-in_err-body-clause-unit
returns-in_err-body-clause-unit g c =
    let same : c.from_residual-in_err-body.result ≡ Err c.in_err-body.field-0.0 = search rules in
    rw same (refused_body _ _ _ c.fill.new.buf c.in_ok-count.count c.fill.auto.buf (sym c.in_ok-count.ensures.value) c.in-Whole.ensures.bytes c.args.place c.in_err-body.field-0.0 c.in_err-body.ensures.body)

pub returns-clause-unit : goal.returns-clause-unit
returns-clause-unit g c =
    (refl, whole_unit _ _ _ c.fill.new.buf c.in_ok-body.body.items c.in_ok-count.count c.fill.auto.buf (sym {a = Ok c.in_ok-count.count} c.in_ok-count.ensures.value) c.in_ok-body.ensures.body.0 c.in-Whole.ensures.bytes c.in_ok-body.ensures.body.1)

use Rattle.vc_ports.proofs.Fronts.{none_of_one}
use Rattle.std.proofs.Common.{refl}
use Rattle.link_hearing.proofs.hearing.look_on.Goals as goal

-- one byte more
pub returns-in-Whole-clause-looks : goal.returns-in-Whole-clause-looks
returns-in-Whole-clause-looks g c = (refl, c.fill.new.buf, c.fill.auto.buf, c.in-Whole.ensures.bytes)

-- the end
pub returns-in-End-clause-looks : goal.returns-in-End-clause-looks
returns-in-End-clause-looks g c =
    let fills = c.in-End.ensures.bytes in
    let gave = rw (none_of_one c.fill.new.buf c.in-End.field-0 c.fill.auto.buf fills.0) at fills.1 in
    (gave.gave, gave.at_end)

-- a failed read
pub returns-in-Failed-clause-looks : goal.returns-in-Failed-clause-looks
returns-in-Failed-clause-looks g c =
    let fills = c.in-Failed.ensures.bytes in (
      rw (none_of_one c.fill.new.buf c.in-Failed.field-0 c.fill.auto.buf fills.0) at fills.1,
      c.in-Failed.ensures.cause.rose tt,
    )

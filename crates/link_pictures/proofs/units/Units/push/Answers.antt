use Rattle.link_pictures.proofs.UnitLists.{unit_more}
use Rattle.link_pictures.proofs.units.Units.push.Goals as goal

pub returns : goal.returns
returns c = λ before units are. rw (c.in_ok-write_unit.ensures.ok, c.unwrap_or.ensures)
    (unit_more before units c.args.self.now.bytes.items c.args.self.now.previous are
    (record { code = c.args.code; body = c.args.body.now }))

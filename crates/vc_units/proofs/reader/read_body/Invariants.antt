use Rattle.std.proofs.Common.{◌≤◌, ◌-◌, length}
use Rattle.vc_ports.specs.Reading.{Gave}
use Rattle.vc_units.proofs.reader.read_body.Given as goal

abbrev pub invariant-parts : goal.invariant-parts
invariant-parts g l = record {
  gave : Gave (g.S.Source.left l.fn.source) (g.S.Source.left l.source) l.body.items;
  within : length l.body.items ≤ l.count;
  later : g.S.Source.faults l.fn.source ≤ g.S.Source.faults l.source;
}

abbrev pub decreases-parts : goal.decreases-parts
decreases-parts g l = l.count - length l.body.items

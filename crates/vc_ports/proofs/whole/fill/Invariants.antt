use Rattle.std.proofs.Common.{◌-◌, ◌≤◌, take, length}
use Rattle.vc_ports.specs.Reading.{Gave}
use Rattle.vc_ports.proofs.whole.fill.Given as goal

abbrev pub invariant-pieces : goal.invariant-pieces
invariant-pieces g l = record {
  within : l.at ≤ length l.buf;
  gave : Gave (g.S.Source.left l.fn.source) (g.S.Source.left l.source) (take l.at l.buf);
  later : g.S.Source.faults l.fn.source ≤ g.S.Source.faults l.source;
  ends : g.S.Source.ends l.fn.source ≤ g.S.Source.ends l.source;
}

abbrev pub decreases-pieces : goal.decreases-pieces
decreases-pieces g l = length l.initial.buf - l.at

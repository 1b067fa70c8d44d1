use Rattle.std.proofs.Common.{◌≤◌, ◌-◌, length, take}
use Rattle.frame_writer.specs.Taking.{GaveSamples}
use Rattle.frame_writer.proofs.taking.take_plane.Given as goal

abbrev pub invariant-pieces : goal.invariant-pieces
invariant-pieces g l = record {
  within : l.at ≤ length l.samples;
  took : GaveSamples l.two l.at (g.S.Source.left l.fn.source) (g.S.Source.left l.source) (take l.at l.samples);
  later : g.S.Source.faults l.fn.source ≤ g.S.Source.faults l.source;
}

abbrev pub decreases-pieces : goal.decreases-pieces
decreases-pieces g l = length l.samples - l.at

use Rattle.std.proofs.Common.{◌≤◌, ◌-◌, length, take}
use Rattle.vc_ports.specs.Writing.{Grew}
use Rattle.vc_types.specs.RawFrames.{samples_bytes}
use Rattle.frame_writer.proofs.pieces.write_samples.Given as goal

abbrev pub invariant-pieces : goal.invariant-pieces
invariant-pieces g l = record {
  within : l.at ≤ length l.samples;
  grew : Grew (g.O.Sink.held l.fn.sink) (g.O.Sink.held l.sink) (samples_bytes l.two (take l.at l.samples));
  later : g.O.Sink.faults l.fn.sink ≤ g.O.Sink.faults l.sink;
}

abbrev pub decreases-pieces : goal.decreases-pieces
decreases-pieces g l = length l.samples - l.at

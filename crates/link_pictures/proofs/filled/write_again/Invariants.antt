use Rattle.std.proofs.Common.{◌≡◌, ◌≤◌}
use Rattle.fill_model.specs.Filled.{repeated}
use Rattle.vc_ports.specs.Writing.{Grew}
use Rattle.link_pictures.proofs.filled.write_again.Given as goal

abbrev pub invariant-loop : goal.invariant-loop
invariant-loop g l = record {
  grew : Grew (g.O.Sink.held l.fn.sink) (g.O.Sink.held l.sink) (repeated l.counter l.fn.bytes);
  most : l.counter ≤ l.fn.times;
  later : g.O.Sink.faults l.fn.sink ≤ g.O.Sink.faults l.sink;
}

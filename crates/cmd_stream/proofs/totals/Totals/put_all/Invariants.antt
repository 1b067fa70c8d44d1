use Rattle.std.proofs.Common.{◌≡◌, ◌≤◌, take}
use Rattle.link_outside.specs.Outlets.{capture_of}
use Rattle.cmd_stream.specs.Counted.{packed_totals_with}
use Rattle.link_sender.specs.Packing.{bytes_of_all}
use Rattle.vc_ports.specs.Writing.{Grew}
use Rattle.cmd_stream.proofs.totals.Totals.put_all.Given as goal

abbrev pub invariant-loop-datagram : goal.invariant-loop-datagram
invariant-loop-datagram g l = record {
  grew : Grew (g.O.Sink.held l.fn.output) (g.O.Sink.held l.output) (capture_of (bytes_of_all (take l.datagram-index l.datagrams)));
  totals : l.self ≡ packed_totals_with l.fn.self (bytes_of_all (take l.datagram-index l.datagrams));
  later : g.O.Sink.faults l.fn.output ≤ g.O.Sink.faults l.output;
}

use Rattle.std.proofs.Common.{◌≡◌, take}
use Rattle.cmd_send.specs.Counted.{totals_with}
use Rattle.link_sender.specs.Packing.{bytes_of_all}
use Rattle.cmd_send.proofs.totals.Totals.put_all.Given as goal

abbrev pub invariant-loop-datagram : goal.invariant-loop-datagram
invariant-loop-datagram g l = record {
  took : g.O.Outlet.took l.fn.outlet l.outlet (bytes_of_all (take l.datagram-index l.datagrams));
  totals : l.self ≡ totals_with l.fn.self (bytes_of_all (take l.datagram-index l.datagrams));
  opened : g.O.Outlet.is_open l.outlet;
}

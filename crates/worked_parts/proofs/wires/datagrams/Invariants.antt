use Rattle.vc_ports.specs.MemoryWires.{AreDatagrams, datagrams_in}
use Rattle.worked_parts.proofs.wires.datagrams.Given as goal

abbrev pub invariant-loop-one : goal.invariant-loop-one
invariant-loop-one l = AreDatagrams (datagrams_in l.all.items)

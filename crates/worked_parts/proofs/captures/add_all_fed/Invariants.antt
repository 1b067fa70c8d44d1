use Rattle.std.proofs.Common.{◌-◌}
use Rattle.pcap_in.specs.Feeding.{IsReady}
use Rattle.worked_parts.proofs.captures.add_all_fed.Given as goal

abbrev pub invariant-loop-turn : goal.invariant-loop-turn
invariant-loop-turn g l = IsReady (5 - l._turn) l.reader l.feed

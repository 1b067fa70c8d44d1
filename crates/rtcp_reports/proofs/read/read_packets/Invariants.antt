use Rattle.std.proofs.Common.{◌≡◌, length}
use Rattle.rtcp_reports.specs.Rtcp.{refusal_in}
use Rattle.rtcp_reports.proofs.read.read_packets.Given as goal

abbrev pub invariant-packets : goal.invariant-packets
invariant-packets l = refusal_in l.rest ≡ refusal_in l.fn.bytes

abbrev pub decreases-packets : goal.decreases-packets
decreases-packets l = length l.rest

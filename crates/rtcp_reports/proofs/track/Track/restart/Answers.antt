use Rattle.std.proofs.Common.{ap}
use Rattle.rtcp_reports.specs.Tracks.{Tracked, restarted, packet_counted}
use Rattle.rtcp_reports.proofs.Counting.{counted-anew}
use Rattle.rtcp_reports.proofs.track.Track.restart.Goals as goal

pub invariant_of-self : goal.invariant_of-self
unfolding restarted
invariant_of-self c = counted-anew _ _ c.args.seq c.self.view_is c.requires c.self.invariant

pub returns : goal.returns
unfolding restarted
returns c = ap (λ (t : Tracked). packet_counted (restarted c.args.seq t)) c.self.view_is

use Rattle.std.proofs.Common.{rules, ◌≡◌, ◌<◌, length, slice_index_or}
use Rattle.link_core.proofs.HeardSessions.{hears_next}
use Rattle.link_core.proofs.session.heard_sessions.Goals as goal

pub loop-datagram-preserved : goal.loop-datagram-preserved
loop-datagram-preserved c =
    let k = c.loop-datagram.datagram-index in
    let d = c.as_slice.result.now in
    let within : k < length c.args.datagrams.now = search rules in
    let at : d ≡ slice_index_or c.args.datagrams.now k d = search rules in
    hears_next c.args.size k c.args.datagrams.now d c.loop-datagram.sessions.items c.hear.new.sessions.items within at c.loop-datagram.invariant c.in_ok-hear.ensures

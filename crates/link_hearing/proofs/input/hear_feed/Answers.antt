use Rattle.std.proofs.Common.{arith}
use Rattle.link_hearing.proofs.HeardFiles.{first_ready, from_first, is_first}
use Rattle.link_hearing.proofs.input.hear_feed.Goals as goal

pub hear_all-ended-requires-clause-inlet : goal.hear_all-ended-requires-clause-inlet
hear_all-ended-requires-clause-inlet g c =
    let was = c.requires in
    first_ready c.args.inlet.now.reader c.args.inlet.now.feed c.args.packets was.head was.place was.packets was.records was.other was.sound
    (omega arith)

pub returns : goal.returns
returns g c =
    let was = c.requires in
    let f = c.args.inlet.now.feed in
    let first = is_first c.args.inlet.now.reader f c.args.packets was.head was.place was.packets was.records was.other
    g.S.Source.left g.S.Source.faults in
    let heard = from_first c.args.packets f.port _ _ _ _ _ _ (g.met.L.Listener.loses_last _ _) _ first _ _ _
    c.hear_all-ended.ensures in
    record { borrows = heard.0; heard = rw (c.records.ensures, c.other.ensures) heard.1 }

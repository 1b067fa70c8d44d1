use Rattle.std.proofs.Common.{rules}
use Rattle.link_hearing.proofs.HeardFiles.{feed_back}
use Rattle.link_hearing.proofs.input.hear_records.Goals as goal

pub returns : goal.returns
returns g c =
    feed_back g.S.Source.left g.S.Source.faults c.args.input.now c.new.result.source.now _ _ _ _ _ _
    c.new-2.result.port c.args.port c.args.packets c.hear_feed.ensures.heard c.new-2.ensures.port
    c.new.ensures.source (search rules)

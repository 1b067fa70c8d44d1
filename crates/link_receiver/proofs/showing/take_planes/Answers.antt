use Rattle.link_receiver.proofs.Steps.{whole_by_some}
use Rattle.link_receiver.proofs.showing.take_planes.Goals as goal

pub take_planes-requires : goal.take_planes-requires
take_planes-requires g c = record {
  whole = whole_by_some c.args.standing.now.session.sequence c.book.result c.book.ensures.whole;
}

use Rattle.link_receiver.proofs.Steps.{whole_by_some}
use Rattle.link_receiver.proofs.showing.take_soundness.Goals as goal

pub take_soundness-requires : goal.take_soundness-requires
take_soundness-requires g c = record {
  whole = whole_by_some c.args.standing.now.session.sequence c.book.result c.book.ensures.whole;
}

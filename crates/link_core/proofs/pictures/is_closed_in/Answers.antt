use Rattle.link_core.proofs.PictureStates.{closed_found}
use Rattle.link_core.proofs.pictures.is_closed_in.Goals as goal

pub returns : goal.returns
returns c = λ hs index job same kept. closed_found c.args.size hs c.args.number index job c.args.sessions.now c.closed_among.result c.closed_among.ensures same kept

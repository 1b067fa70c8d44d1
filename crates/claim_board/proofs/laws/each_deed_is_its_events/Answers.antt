use Rattle.claim_board.proofs.Events.{are_events}
use Rattle.claim_board.proofs.laws.each_deed_is_its_events.Goals as goal

pub returns : goal.returns
returns c = λ window m runs seat deed shows may of. are_events window m runs seat shows deed may of

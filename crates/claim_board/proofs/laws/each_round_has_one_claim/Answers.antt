use Rattle.claim_board.proofs.Progress.{one_claim}
use Rattle.claim_board.proofs.laws.each_round_has_one_claim.Goals as goal

pub returns : goal.returns
returns c = λ places place serial history run. one_claim places place serial history run

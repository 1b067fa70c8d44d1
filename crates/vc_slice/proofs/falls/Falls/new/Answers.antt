use Rattle.vc_slice.proofs.FallSums.{sum_none, most_none}
use Rattle.vc_slice.proofs.falls.Falls.new.Goals as goal

pub returns-clause-bits : goal.returns-clause-bits
returns-clause-bits c = λ q. sum_none q 128

pub returns-clause-kept : goal.returns-clause-kept
returns-clause-kept c = λ q. most_none q 128

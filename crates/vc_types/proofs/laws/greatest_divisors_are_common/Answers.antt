use Rattle.vc_types.proofs.Divisors.{is_greatest}
use Rattle.vc_types.proofs.laws.greatest_divisors_are_common.Goals as goal

pub returns : goal.returns
returns c = is_greatest

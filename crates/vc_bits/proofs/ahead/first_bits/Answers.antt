use Rattle.std.proofs.Common.{arith}
use Rattle.vc_bits.proofs.Tails.{first_of, none_of}
use Rattle.vc_bits.proofs.ahead.first_bits.Goals as goal

pub returns-then-count-eq0 : goal.returns-then-count-eq0
returns-then-count-eq0 c = none_of c.args.count _ c.if-count-eq0.true

pub returns : goal.returns
returns c = first_of _ c.args.count c.requires.few (c.requires.some (omega arith))

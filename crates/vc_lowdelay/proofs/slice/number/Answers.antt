use Rattle.std.proofs.Common.{◌^◌, ◌<◌, ℕ, sym, subst}
use Rattle.vc_lowdelay.proofs.BlockBits.{number_below}
use Rattle.vc_lowdelay.proofs.slice.number.Goals as goal

pub returns-clause-range : goal.returns-clause-range
returns-clause-range c = subst (λ (k : ℕ). k < 2 ^ c.args.count) (sym c.in-Ok.ensures.ok) (number_below c.args.count c.args.bits.now.left c.requires.left)

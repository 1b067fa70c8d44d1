use Rattle.std.proofs.Common.{refl, ◌*◌, ◌/◌, ◌^◌}
use Rattle.vc_quant.proofs.Quotients.{not_over, one_more, no_more}
use Rattle.vc_quant.proofs.quotient.short_quotient.Goals as goal

pub overflow_sub-size : goal.overflow_sub-size
overflow_sub-size c =
    not_over (2 ^ 32) c.args.size c.args.divisor c.args.reciprocal
    (c.args.size * c.args.reciprocal / 2 ^ 32) c.requires.divisor c.requires.size
    c.requires.reciprocal.0 c.requires.reciprocal.1 refl

pub returns-then-size-quotient : goal.returns-then-size-quotient
returns-then-size-quotient c =
    one_more (2 ^ 32) c.args.size c.args.divisor c.args.reciprocal
    (c.args.size * c.args.reciprocal / 2 ^ 32) c.requires.divisor c.requires.size
    c.requires.reciprocal.0 c.requires.reciprocal.1 refl c.if-size-quotient.true

pub returns-else-size-quotient : goal.returns-else-size-quotient
returns-else-size-quotient c =
    no_more (2 ^ 32) c.args.size c.args.divisor c.args.reciprocal
    (c.args.size * c.args.reciprocal / 2 ^ 32) c.requires.divisor c.requires.size
    c.requires.reciprocal.0 c.requires.reciprocal.1 refl c.if-size-quotient.false

use Rattle.std.proofs.Common.{◌≡◌, arith, rules, refl, length}
use Rattle.vc_slice.proofs.FallSums.{entry_le, sum_set, sum_set_above}
use Rattle.vc_slice.proofs.falls.add_at.Goals as goal

pub overflow_add-bits : goal.overflow_add-bits
overflow_add-bits c = omega (arith, entry_le c.from.result c.args.bits.now, c.requires.room)

pub returns-clause-on : goal.returns-clause-on
returns-clause-on c = λ q le.
    let long : length c.args.bits.now ≡ 128 = search rules in
    sum_set q c.from.result c.args.bits.now _ c.args.more (omega (arith, long, c.from.ensures)) refl (omega (arith, c.from.ensures))

pub returns-clause-off : goal.returns-clause-off
returns-clause-off c = λ q lt. sum_set_above q c.from.result c.args.bits.now _ (omega (arith, c.from.ensures))

use Rattle.std.proofs.Common.{◌^◌, ◌+ℤ◌, ◌-ℤ◌, arith}
use Rattle.std.specs.Int.{w128}
use Rattle.std.proofs.lemmas.Int.{ints, fits_signed_from_abs}
use Rattle.vc_lift.proofs.Sums.{read_back}
use Rattle.vc_lift.proofs.columns.changed_by.Goals as goal

pub overflow_add-result : goal.overflow_add-result
overflow_add-result c = rw (read_back c.args.sample (omega arith), read_back c.args.change (omega arith))
    (fits_signed_from_abs w128 (c.args.sample +ℤ c.args.change) (omega (arith, ints)))

pub overflow_sub-result : goal.overflow_sub-result
overflow_sub-result c = rw (read_back c.args.sample (omega arith), read_back c.args.change (omega arith))
    (fits_signed_from_abs w128 (c.args.sample -ℤ c.args.change) (omega (arith, ints)))

pub returns-then-adds : goal.returns-then-adds
returns-then-adds c =
    rw (read_back c.args.sample (omega arith), read_back c.args.change (omega arith), c.if-adds.true)
    (read_back (c.args.sample +ℤ c.args.change) (omega (arith, ints)))

pub returns-else-adds : goal.returns-else-adds
returns-else-adds c =
    rw (read_back c.args.sample (omega arith), read_back c.args.change (omega arith), c.if-adds.false)
    (read_back (c.args.sample -ℤ c.args.change) (omega (arith, ints)))

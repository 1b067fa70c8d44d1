use Rattle.std.proofs.Common.{◌≡◌, unsigned_abs, arith, ap, ◌∙◌}
use Rattle.std.specs.Int.{w32}
use Rattle.std.proofs.lemmas.Int.{to_z-of_z}
use Rattle.vc_quant.proofs.narrow.coefficient.Goals as goal

pub overflow_mul-size : goal.overflow_mul-size
overflow_mul-size c = rw (c.unsigned_abs-size.ensures.value, to_z-of_z w32 c.args.number c.ranges.number) (omega arith)

pub overflow_add-size : goal.overflow_add-size
overflow_add-size c = rw (c.unsigned_abs-size.ensures.value, to_z-of_z w32 c.args.number c.ranges.number) (omega arith)

pub overflow_add-size-else-size-eq0 : goal.overflow_add-size-else-size-eq0
overflow_add-size-else-size-eq0 c =
    rw (c.unsigned_abs-size.ensures.value, to_z-of_z w32 c.args.number c.ranges.number) (omega arith)

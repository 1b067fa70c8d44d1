use Rattle.std.proofs.Common.{arith, ◌^◌, ◌+◌, pos, ap, ◌∙◌, ℤ, ◌+ℤ◌}
use Rattle.std.specs.Int.{int_shr}
use Rattle.vc_types.specs.Lifting.{half_of}
use Rattle.vc_lift.specs.CountedSteps.{change_at}
use Rattle.vc_lift.specs.Halves.{line_in}
use Rattle.vc_lift.specs.Steps.{counted_of}
use Rattle.vc_lift.proofs.NarrowSums.{narrow_rounding, narrow_shift, change_within}
use Rattle.vc_lift.proofs.narrow.change_at.Goals as goal

pub returns-clause-value : goal.returns-clause-value
unfolding change_at
returns-clause-value c = grind (arith, narrow_shift, narrow_rounding)

pub returns-clause-bound : goal.returns-clause-bound
unfolding change_at
returns-clause-bound c =
    let k = c.args.step.now.shift in
    let line = line_in c.args.halves.now c.args.cells.now c.args.x in
    let made = narrow_shift c.weigh.result _ k
    (narrow_rounding k c.args.step.now.plain.shift) c.weigh.ensures.bound
    ∙ ap (λ z. int_shr (z +ℤ pos (half_of k)) k) c.weigh.ensures.value in
    rw made
    (change_within (counted_of c.args.step.now) c.args.halves.now.half line c.args.n (2 ^ 31) c.requires.room)

use Rattle.std.proofs.Common.{◌^◌, arith, ap, sym, ◌∙◌, Some}
use Rattle.std.proofs.lemmas.List.{drop_all}
use Rattle.vc_lift.specs.Ranges.{bound_after}
use Rattle.vc_lift.specs.StepLists.{steps_of}
use Rattle.vc_lift.proofs.NarrowGrowth.{bound_none, rest_of}
use Rattle.vc_lift.proofs.ranges.bound_after.Goals as goal

pub returns-in_err-bounds-clause-value : goal.returns-in_err-bounds-clause-value
returns-in_err-bounds-clause-value c = grind (arith, rest_of)

pub returns-clause-value : goal.returns-clause-value
returns-clause-value c =
    let bounds = c.loop-i.bounds in
    sym (c.loop-i.invariant.same
    ∙ ap (λ ts. bound_after (2 ^ 31) ts bounds.0 bounds.1)
    (drop_all c.loop-i.i (steps_of c.args.steps.now) (omega arith))
    ∙ bound_none (2 ^ 31) bounds.0 bounds.1
    ∙ ap Some (sym c.max.ensures))

use Rattle.std.proofs.Common.{◌≡◌, ℕ, Bool, List, subst, arith}
use Rattle.std.proofs.lemmas.Result.{err_from_is_err_and}
use Rattle.vc_params.proofs.CustomValues.{HoldsValues, one_more_held, all_held, value_refused}
use Rattle.vc_params.proofs.matrix.matrix_values.Goals as goal

pub returns-in_err-matrix-clause-gives : goal.returns-in_err-matrix-clause-gives
returns-in_err-matrix-clause-gives c =
    let p = err_from_is_err_and c.from_residual.result c.from_residual.ensures.1 in
    rw (p.1, p.2) (value_refused c.args.count c.loop-place.place c.loop-place.matrix c.loop-place.r.left c.args.r.now.left c.in_err-matrix.field-0.0 c.loop-place.invariant c.loop-place-test.true c.in_err-matrix.ensures.gives)

pub loop-place-preserved : goal.loop-place-preserved
loop-place-preserved c = one_more_held c.args.count c.loop-place.place c.loop-place.matrix c.loop-place.r.left c.args.r.now.left c.in_ok-matrix.field-0 c.matrix_value.new.r.left c.loop-place.invariant c.loop-place-test.true c.requires c.in_ok-matrix.ensures.small c.in_ok-matrix.ensures.gives

ended : (count place : ℕ) (matrix : List ℕ) (left all : List Bool) → place ≡ count → HoldsValues count place matrix left all → HoldsValues count count matrix left all
ended count place matrix left all e held = subst (λ (n : ℕ). HoldsValues count n matrix left all) e held

pub returns-clause-gives : goal.returns-clause-gives
returns-clause-gives c = (all_held c.args.count c.loop-place.matrix c.loop-place.r.left c.args.r.now.left (ended c.args.count c.loop-place.place c.loop-place.matrix c.loop-place.r.left c.args.r.now.left (omega arith) c.loop-place.invariant) c.requires).0

pub returns-clause-fits : goal.returns-clause-fits
returns-clause-fits c = (all_held c.args.count c.loop-place.matrix c.loop-place.r.left c.args.r.now.left (ended c.args.count c.loop-place.place c.loop-place.matrix c.loop-place.r.left c.args.r.now.left (omega arith) c.loop-place.invariant) c.requires).1

pub returns-clause-ends : goal.returns-clause-ends
returns-clause-ends c = (all_held c.args.count c.loop-place.matrix c.loop-place.r.left c.args.r.now.left (ended c.args.count c.loop-place.place c.loop-place.matrix c.loop-place.r.left c.args.r.now.left (omega arith) c.loop-place.invariant) c.requires).2

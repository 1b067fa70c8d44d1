use Rattle.vc_params.proofs.CustomValues.{HoldsValues}
use Rattle.vc_params.proofs.matrix.matrix_values.Given as goal

abbrev pub invariant-loop-place : goal.invariant-loop-place
invariant-loop-place l = HoldsValues l.count l.place l.matrix l.r.left l.fn.r.left

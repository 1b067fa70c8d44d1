use Rattle.std.proofs.Common.{◌+◌, ◌*◌, take, IsTrue, arith, sym, subst, ap, ◌∙◌}
use Rattle.vc_types.specs.Limits.{matrix_fits}
use Rattle.vc_types.proofs.Matrices.{filled-cut, matrix_fits-take, matrix_fits-filled}
use Rattle.vc_quant.proofs.matrix.cut.Goals as goal

pub returns-clause-value : goal.returns-clause-value
returns-clause-value c = filled-cut c.copy_from_slice.new.self c.args.row.now (1 + 3 * c.from.result) (1 + 3 * c.args.depth) (c.copy_from_slice.ensures.after ∙ ap (λ n. take (1 + 3 * n) c.args.row.now) c.from.ensures) (omega arith) (omega arith) (omega arith)

pub returns-clause-fits : goal.returns-clause-fits
returns-clause-fits c = λ fits.
    subst (λ matrix. IsTrue (matrix_fits matrix)) (sym (returns-clause-value c)) (matrix_fits-filled (take (1 + 3 * c.args.depth) c.args.row.now) (matrix_fits-take (1 + 3 * c.args.depth) c.args.row.now fits))

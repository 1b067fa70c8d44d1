use Rattle.std.proofs.Common.{Some, sym, ap, ◌∙◌, arith}
use Rattle.vc_types.proofs.Matrices.{default_matrix-none, default_matrix-some}
use Rattle.vc_quant.proofs.matrix.default_matrix.Goals as goal

pub returns-then-depth-eq5-clause-value : goal.returns-then-depth-eq5-clause-value
returns-then-depth-eq5-clause-value c = default_matrix-none c.args.wavelet c.args.depth (omega arith)

pub returns-clause-value : goal.returns-clause-value
returns-clause-value c =
    default_matrix-some c.args.wavelet c.args.depth c.row.result (λ e. absurd (omega arith)) c.row.ensures.value ∙ ap Some (sym c.cut.ensures.value)

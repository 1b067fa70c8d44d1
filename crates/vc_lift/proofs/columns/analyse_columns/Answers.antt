use Rattle.std.proofs.Common.{◌∙◌}
use Rattle.vc_lift.proofs.CountedSteps.{analysed_by}
use Rattle.vc_lift.proofs.columns.analyse_columns.Goals as goal

pub returns : goal.returns
returns c = record {
  value = λ x h. c.run.ensures x h
      ∙ analysed_by c.args.wavelet c.args.half _ _ c.analysis.ensures;
}

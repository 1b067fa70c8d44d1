use Rattle.std.proofs.Common.{◌∙◌}
use Rattle.vc_lift.proofs.CountedSteps.{synthesised_by}
use Rattle.vc_lift.proofs.columns.synth_columns.Goals as goal

pub returns-then-width-eq1 : goal.returns-then-width-eq1
returns-then-width-eq1 c = record {
  value = rw c.if-width-eq1.true (λ x h. c.run.ensures x h
      ∙ synthesised_by c.args.wavelet c.args.half _ _ c.synthesis.ensures);
}

pub returns-else-width-eq1 : goal.returns-else-width-eq1
returns-else-width-eq1 c = record {
  value = λ x h. c.run-else-width-eq1.ensures x h
      ∙ synthesised_by c.args.wavelet c.args.half _ _ c.synthesis-else-width-eq1.ensures;
}

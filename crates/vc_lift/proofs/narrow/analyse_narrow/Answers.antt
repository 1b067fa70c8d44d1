use Rattle.std.proofs.Common.{ap, ◌∙◌}
use Rattle.vc_lift.proofs.CountedSteps.{analysed_by}
use Rattle.vc_lift.proofs.narrow.analyse_narrow.Goals as goal

pub run-requires-clause-narrow : goal.run-requires-clause-narrow
run-requires-clause-narrow c = λ x h. rw c.analysis.ensures (c.requires.narrow x h)

pub returns-clause-on : goal.returns-clause-on
returns-clause-on c = λ x k h lt. c.run.ensures.on x k h lt
    ∙ ap (λ f. f k) (analysed_by c.args.wavelet c.args.halves.now.half _ _ c.analysis.ensures)

pub returns-clause-off : goal.returns-clause-off
returns-clause-off c = c.run.ensures.off

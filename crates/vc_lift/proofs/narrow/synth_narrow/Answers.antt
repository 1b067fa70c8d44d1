use Rattle.std.proofs.Common.{ap, ◌∙◌}
use Rattle.vc_lift.proofs.CountedSteps.{synthesised_by}
use Rattle.vc_lift.proofs.narrow.synth_narrow.Goals as goal

pub run-requires-clause-narrow : goal.run-requires-clause-narrow
run-requires-clause-narrow c = λ x h. rw c.synthesis.ensures (c.requires.narrow x h)

pub returns-clause-on : goal.returns-clause-on
returns-clause-on c = λ x k h lt. c.run.ensures.on x k h lt
    ∙ ap (λ f. f k) (synthesised_by c.args.wavelet c.args.halves.now.half _ _ c.synthesis.ensures)

pub returns-clause-off : goal.returns-clause-off
returns-clause-off c = c.run.ensures.off

use Rattle.std.proofs.Common.{◌-◌}
use Rattle.vc_types.specs.SenderSettings.{sending_view}
use Rattle.vc_types.specs.TransformParameters.{parameters_of}
use Rattle.picture_encode.proofs.Judged.{told_need}
use Rattle.picture_encode.proofs.slices.ask.Goals as goal

pub returns-clause-answer : goal.returns-clause-answer
returns-clause-answer g c = λ planes same. (
  record { index = c.args.sent.now.parts.slice; room = c.args.sent.now.s.now.size - 32; lens = c.in_ok-told_lens.field-0 },
  told_need (sending_view c.args.sent.now.s.now) c.args.chooser.now.wants_lens planes c.args.sent.now.parts.slice (parameters_of c.args.sent.now.parts.plan) c.in_ok-told_lens.field-0.items c.args.sent.now.sent (c.in_ok-told_lens.ensures planes same),
  c.index.ensures.answer,
)

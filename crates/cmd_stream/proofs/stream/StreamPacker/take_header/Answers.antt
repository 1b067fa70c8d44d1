use Rattle.std.proofs.Common.{refl, ap, sym, ◌∙◌}
use Rattle.cmd_stream.proofs.Heading.{first_header, next_header}
use Rattle.vc_types.specs.SenderSettings.{packing_view}
use Rattle.cmd_stream.proofs.stream.StreamPacker.take_header.Goals as goal

pub returns-in-None-clause-value : goal.returns-in-None-clause-value
returns-in-None-clause-value c = λ s stream was.
    first_header s stream c.args.self.now was c.in-None.is c.args.body.items _ c.in-Ok.used (rw c.deref.ensures.value at c.in-Ok.ensures.exact) _ _ refl refl refl refl c.truncate.ensures.items (ap packing_view c.new-packer.ensures.settings) c.new-packer.ensures.counts refl

pub returns-in-Some-clause-value : goal.returns-in-Some-clause-value
returns-in-Some-clause-value c = λ s stream was.
    next_header s stream c.args.self.now c.in-Some.stream was c.in-Some.is c.args.body.items _ c.in-Ok.used (rw c.deref.ensures.value at c.in-Ok.ensures.exact) (sym c.is_same.ensures ∙ c.if-is_same.true) _ _ refl refl refl refl c.truncate.ensures.items refl refl

use Rattle.std.proofs.Common.{[], ◌∷◌}
use Rattle.link_model.specs.Sending.{HeaderContent, ParametersContent}
use Rattle.link_sender.proofs.Numbered.{then_ok}
use Rattle.link_sender.proofs.Putting.{puts_more}
use Rattle.link_sender.proofs.outbox.Outbox.put_heads.Goals as goal

pub returns : goal.returns
returns c =
    then_ok c.put_parameters.result c.put_parameters.ensures
    (puts_more c.args.p.now (HeaderContent ∷ []) (ParametersContent ∷ []) c.args.self.now c.put_header.new.self c.put_parameters.new.self c.in_ok-put_header.ensures)

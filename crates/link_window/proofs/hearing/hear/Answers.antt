use Rattle.std.proofs.Common.{◌≡◌, ap, ◌∙◌, rules}
use Rattle.link_model.specs.Session.{received}
use Rattle.std.specs.Option.{option_copied}
use Rattle.link_window.proofs.DatagramSteps.{unread}
use Rattle.link_window.proofs.hearing.hear.Goals as goal

pub returns-in-Err : goal.returns-in-Err
returns-in-Err c =
    let refused = c.in-Err.ensures.refused in
    let same : c.args.datagram.now ≡ c.as_slice.result.now = search rules in
    unread c.args.datagram.now refused.0 (ap received same ∙ refused.1) (option_copied c.args.standing) c.in-Err.outcome refused.2

use Rattle.std.proofs.Common.{ap, ◌∙◌, arith}
use Rattle.link_core.specs.Hearing.{greatest_among}
use Rattle.link_core.proofs.HeardSessions.{heard_small, first_running}
use Rattle.link_core.proofs.session.hear.Goals as goal

pub new-requires-clause-fits : goal.new-requires-clause-fits
new-requires-clause-fits c =
    let small = heard_small c.args.size c.args.sessions.now.items c.requires.heard in
    omega (arith, small, c.greatest-greatest.ensures ∙ ap greatest_among c.deref-in-Some.ensures.value)

pub hear-requires : goal.hear-requires
hear-requires c = first_running c.args.size c.args.sessions.now.items c.in-Some-first_mut.last.now c.requires.heard c.in-Some-first_mut.ensures.item.3.0 c.in-Some-first_mut.ensures.item.1

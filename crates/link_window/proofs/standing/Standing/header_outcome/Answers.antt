use Rattle.std.proofs.Common.{Option, ap, sym, ◌∙◌}
use Rattle.std.specs.Option.{option_map}
use Rattle.link_window.specs.Openings.{session_of}
use Rattle.link_window.specs.declared.heard.Opening.{Opening}
use Rattle.link_window.proofs.HeaderOutcomes.{outcome_for, outcome_is}
use Rattle.link_window.proofs.standing.Standing.header_outcome.Goals as goal

pub returns-in-Some : goal.returns-in-Some
returns-in-Some c = λ ssrc body is.
    let s = c.args.self.now.session.sequence in
    c.outcome_of.ensures 0
    ∙ sym (outcome_is ssrc body s (option_map session_of c.args.opening) is
    ∙ ap (λ (o : Option Opening). outcome_for s (option_map session_of o)) c.in-Some.is)

pub returns-in-None : goal.returns-in-None
returns-in-None c = λ ssrc body is.
    let s = c.args.self.now.session.sequence in
    sym (outcome_is ssrc body s (option_map session_of c.args.opening) is
    ∙ ap (λ (o : Option Opening). outcome_for s (option_map session_of o)) c.in-None.is)

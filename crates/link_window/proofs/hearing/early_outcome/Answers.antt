use Rattle.std.proofs.Common.{ap, sym, ◌∙◌}
use Rattle.link_model.specs.Judgement.{early_outcome}
use Rattle.link_model.specs.Session.{session_by}
use Rattle.link_window.proofs.HeaderOutcomes.{early_for, early_is}
use Rattle.vc2_payload.specs.Views.{payload_value}
use Rattle.vc2_payload.specs.declared.payload.Payload.{Payload}
use Rattle.link_window.proofs.hearing.early_outcome.Goals as goal

pub returns-in-Header : goal.returns-in-Header
returns-in-Header c = λ ssrc none.
    let is = c.in-Header.is in
    sym (ap (λ (p : Payload). early_outcome (payload_value p)) is
    ∙ early_is ssrc c.in-Header.body.now
    ∙ ap early_for (sym (ap (λ (p : Payload). session_by ssrc (payload_value p)) is) ∙ none))

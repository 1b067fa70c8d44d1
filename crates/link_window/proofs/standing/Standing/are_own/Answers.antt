use Rattle.std.proofs.Common.{◌≡◌, false, sym, subst, ◌∙◌}
use Rattle.std.specs.List.{list_all}
use Rattle.receiver_model.specs.Receptions.{StandingSession}
use Rattle.link_slices.specs.Jobs.{jobs_of_run}
use Rattle.link_window.proofs.OwnRuns.{is_own, run_known, run_released, run_unknown}
use Rattle.link_window.proofs.standing.Standing.are_own.Goals as goal

pub returns-then-is_released : goal.returns-then-is_released
returns-then-is_released c =
    let run = c.args.run.now in
    let s = c.self.inside in
    let st : StandingSession = record { session = record { ssrc = s.ssrc; sequence = s.window.sequence; presentation = s.presentation }; has_ended = s.has_ended; window = s.window } in
    subst (λ (st : StandingSession). false ≡ list_all (is_own st) (jobs_of_run run)) c.self.view_is
    (sym (run_released st run (sym c.is_released.ensures ∙ c.if-is_released.true)))

pub returns-in-Some : goal.returns-in-Some
returns-in-Some c =
    let run = c.args.run.now in
    let s = c.self.inside in
    let st : StandingSession = record { session = record { ssrc = s.ssrc; sequence = s.window.sequence; presentation = s.presentation }; has_ended = s.has_ended; window = s.window } in
    subst (λ (st : StandingSession). c.has_run.result ≡ list_all (is_own st) (jobs_of_run run)) c.self.view_is
    (c.has_run.ensures ∙ run_known st run c.in-Some.book.now (sym c.is_released.ensures ∙ c.if-is_released.false) (sym c.in-Some.ensures.value))

pub returns-in-None : goal.returns-in-None
returns-in-None c =
    let run = c.args.run.now in
    let s = c.self.inside in
    let st : StandingSession = record { session = record { ssrc = s.ssrc; sequence = s.window.sequence; presentation = s.presentation }; has_ended = s.has_ended; window = s.window } in
    subst (λ (st : StandingSession). false ≡ list_all (is_own st) (jobs_of_run run)) c.self.view_is
    (sym (run_unknown st run (sym c.is_released.ensures ∙ c.if-is_released.false) (sym c.in-None.ensures.value)))

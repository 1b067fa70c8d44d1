use Rattle.std.proofs.Common.{◌≡◌, false, refl, ap, sym, ◌∙◌, map, arith}
use Rattle.receiver_model.specs.Receptions.{StandingSession}
use Rattle.link_slices.specs.Jobs.{job_of}
use Rattle.link_window.specs.PictureJobs.{picture_job}
use Rattle.link_window.specs.Views.{sent_fragment}
use Rattle.link_window.proofs.SessionWindows.{anew_sound, enters_sequence}
use Rattle.link_window.proofs.WindowJobs.{late_value, late_outcome, late_offers, early_value}
use Rattle.link_window.proofs.WindowJobs.{early_outcome, early_sound, early_offers}
use Rattle.link_window.proofs.standing.Standing.enter.Goals as goal

pub returns-in_default-clause-value : goal.returns-in_default-clause-value
returns-in_default-clause-value c =
    let late = sym c.in_default.is ∙ c.number_of.ensures in
    rw (← c.self.view_is) (rw (late_value c.self.inside.window (sent_fragment c.args.f) late) refl)

pub returns-in_default-clause-outcome : goal.returns-in_default-clause-outcome
returns-in_default-clause-outcome c = rw (← c.self.view_is)
    (late_outcome c.self.inside.window (sent_fragment c.args.f) (sym c.in_default.is ∙ c.number_of.ensures))

pub returns-in_default-clause-jobs : goal.returns-in_default-clause-jobs
returns-in_default-clause-jobs c = rw (← c.self.view_is) (ap (map job_of) c.new.ensures.items
    ∙ late_offers c.self.inside.window (sent_fragment c.args.f) (sym c.in_default.is ∙ c.number_of.ensures))

pub invariant_of-self : goal.invariant_of-self
invariant_of-self c =
    anew_sound c.self.inside.window c.self.invariant c.keep.new.self c.in_err-taken.ensures.lost

-- whether there is memory for the jobs or not
pub invariant_of-self-2 : goal.invariant_of-self-2
invariant_of-self-2 c =
    let w = c.self.inside.window in
    let runs : w.is_ended ≡ false =
    ap (λ (st : StandingSession). st.window.is_ended) c.self.view_is ∙ c.requires in
    early_sound w (sent_fragment c.args.f) c.in-Some.number (sym c.in-Some.is ∙ c.number_of.ensures)
    c.keep.new.self c.in_ok-taken.ensures.value c.self.invariant runs

pub invariant_of-self-in_err-jobs : goal.invariant_of-self-in_err-jobs
invariant_of-self-in_err-jobs c =
    let w = c.self.inside.window in
    let runs : w.is_ended ≡ false =
    ap (λ (st : StandingSession). st.window.is_ended) c.self.view_is ∙ c.requires in
    early_sound w (sent_fragment c.args.f) c.in-Some.number (sym c.in-Some.is ∙ c.number_of.ensures)
    c.keep.new.self c.in_ok-taken.ensures.value c.self.invariant runs

pub returns-clause-value : goal.returns-clause-value
returns-clause-value c = rw (← c.self.view_is) (rw (
  early_value c.self.inside.window (sent_fragment c.args.f)
      c.in-Some.number (sym c.in-Some.is ∙ c.number_of.ensures) c.keep.new.self c.in_ok-taken.ensures.value,
  enters_sequence c.self.inside.window (sent_fragment c.args.f),
) refl)

pub returns-clause-outcome : goal.returns-clause-outcome
returns-clause-outcome c =
    let number = sym c.in-Some.is ∙ c.number_of.ensures in
    rw (← c.self.view_is) (c.in_ok-taken.ensures.outcome
    ∙ early_outcome c.self.inside.window (sent_fragment c.args.f) c.in-Some.number number)

pub returns-clause-jobs : goal.returns-clause-jobs
returns-clause-jobs c =
    let w = c.self.inside.window in
    let number = sym c.in-Some.is ∙ c.number_of.ensures in
    let runs : w.is_ended ≡ false =
    ap (λ (st : StandingSession). st.window.is_ended) c.self.view_is ∙ c.requires in
    rw (← c.self.view_is) (c.in_ok-jobs.ensures
    ∙ ap (map (picture_job c.in-Some.number)) c.in_ok-taken.ensures.slices
    ∙ early_offers w (sent_fragment c.args.f) c.in-Some.number number
    (omega (arith, c.self.invariant.least)) runs)

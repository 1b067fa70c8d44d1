-- What a datagram is to the session that stands: it opens the next one, brings a fragment, ends the
-- sequence, or changes nothing. Each case has its outcome.
use Rattle.std.specs.Prelude.{◌≡◌, ℕ, List, true, false, Option, Some, None}
use Rattle.link_model.specs.Session.{received, begins, ends, fragment_in}
use Rattle.link_model.specs.Windows.{window_outcome}
use Rattle.link_model.specs.declared.outcome.Outcome.{Outcome}
use Rattle.link_model.specs.declared.outcome.Outcome.TheVariants as outcomes
use Rattle.receiver_model.specs.Judging.{opens_after, outcome_by}
use Rattle.receiver_model.specs.Receptions.{StandingSession}
use Rattle.link_window.specs.Openings.{session_of}
use Rattle.link_window.specs.declared.heard.Heard.{Heard}
use Rattle.link_window.specs.declared.heard.Heard.TheVariants.{Opens, Brings, Ends, Nothing}
use Rattle.link_window.specs.declared.heard.Opening.{Opening}
use Rattle.link_window.specs.Views.{sent_fragment}
use Rattle.link_window.specs.declared.fragment.Fragment.{Fragment}

pub record OpensSession (standing : Option StandingSession) (datagram : List ℕ) (o : Opening)
    : Type 0 where
  pub opens : opens_after standing (begins datagram) ≡ Some (session_of o)
  pub outcome : outcome_by standing (received datagram) ≡ outcomes.HeaderNew

pub record BringsFragment (standing : Option StandingSession) (datagram : List ℕ) (f : Fragment)
    : Type 0 where
  pub session : StandingSession
  pub stands : standing ≡ Some session
  pub goes_on : opens_after standing (begins datagram) ≡ None
  pub fragment : fragment_in session.session datagram ≡ Some (sent_fragment f)
  pub no_end : ends session.session datagram ≡ false
  pub outcome : outcome_by standing (received datagram)
      ≡ window_outcome session.window (sent_fragment f)

pub record EndsSession (standing : Option StandingSession) (datagram : List ℕ) : Type 0 where
  pub session : StandingSession
  pub stands : standing ≡ Some session
  pub goes_on : opens_after standing (begins datagram) ≡ None
  pub no_fragment : fragment_in session.session datagram ≡ None
  pub end : ends session.session datagram ≡ true
  pub outcome : outcome_by standing (received datagram) ≡ outcomes.End

pub record ChangesNothing (standing : Option StandingSession) (datagram : List ℕ) (o : Outcome)
    : Type 0 where
  pub goes_on : opens_after standing (begins datagram) ≡ None
  pub no_fragment : (session : StandingSession) → standing ≡ Some session
      → fragment_in session.session datagram ≡ None
  pub no_end : (session : StandingSession) → standing ≡ Some session
      → ends session.session datagram ≡ false
  pub outcome : outcome_by standing (received datagram) ≡ o

abbrev pub IsHeard : Option StandingSession → List ℕ → Heard → Type 0
IsHeard standing datagram (Opens o) = OpensSession standing datagram o
IsHeard standing datagram (Brings f) = BringsFragment standing datagram f
IsHeard standing datagram Ends = EndsSession standing datagram
IsHeard standing datagram (Nothing o) = ChangesNothing standing datagram o

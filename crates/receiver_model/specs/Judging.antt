-- How a receiver judges a datagram, and what it keeps of it (this project's profile of RFC 8450).
use Rattle.std.specs.Prelude.{ℕ, ◌||◌, List, true, Option, Some, None, Result}
use Rattle.std.specs.Option.{option_map}
use Rattle.link_model.specs.Judgement.{KnownSession, judgement, with_outcome}
use Rattle.link_model.specs.Session.{Received, received, DatagramRefusal, Session, opens_over}
use Rattle.link_model.specs.Session.{begins, ends, Fragment, fragment_in}
use Rattle.link_model.specs.Windows.{Window, window_enters, window_outcome, finishes}
use Rattle.link_model.specs.declared.outcome.Outcome.{Outcome}
use Rattle.receiver_model.specs.Receptions.{StandingSession, Reception}

-- ---- the session that a datagram opens

abbrev pub opens_from : StandingSession → Option Session → Option Session
opens_from st o = opens_over st.session st.has_ended o

-- the first one any, a later one where the one that stands has ended and it is another
abbrev pub opens_after : Option StandingSession → Option Session → Option Session
opens_after None o = o
opens_after (Some st) o = opens_from st o

abbrev pub session_opened : Reception → List ℕ → Option Session
session_opened r datagram = opens_after r.standing (begins datagram)

-- ---- its outcome

-- what a window knows of its session
abbrev pub known_by_window : StandingSession → KnownSession
known_by_window st = record {
  session = st.session;
  has_ended = st.has_ended;
  fragment = window_outcome st.window;
}

abbrev pub outcome_by : Option StandingSession → Result Received DatagramRefusal → Outcome
outcome_by standing r = judgement (option_map known_by_window standing) r

unfoldable pub judged : Reception → List ℕ → Outcome
judged r datagram = outcome_by r.standing (received datagram)

-- ---- what it keeps

abbrev pub enters_window : Window → Option Fragment → Window
enters_window w None = w
enters_window w (Some f) = window_enters w f

-- a datagram that opens no session
abbrev pub goes_on : StandingSession → List ℕ → StandingSession
goes_on st datagram = record st {
  has_ended = st.has_ended || ends st.session datagram;
  window = enters_window st.window (fragment_in st.session datagram);
}

-- all its pictures are closed
abbrev pub is_over : StandingSession → StandingSession
is_over st = record st { window = finishes st.window }

-- one that opens a session closes the pictures of the one before
abbrev pub stands_on : Option Session → StandingSession → List ℕ → StandingSession
stands_on None st datagram = goes_on st datagram
stands_on (Some next) st datagram = is_over st

unfoldable pub keeps_datagram : Reception → List ℕ → Reception
keeps_datagram r datagram = record r {
  standing = option_map (λ st. stands_on (session_opened r datagram) st datagram) r.standing;
  counts = with_outcome r.counts (judged r datagram);
}

-- the input ends, which closes all pictures
abbrev pub ends_input : Reception → Reception
ends_input r = record r { standing = option_map is_over r.standing; has_ended = true }

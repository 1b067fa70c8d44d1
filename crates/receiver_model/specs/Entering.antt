-- What a datagram and the end of the input do to a receiver (this project's own): it judges, keeps,
-- offers and takes back, and then it releases what it may.
use Rattle.std.specs.Prelude.{ℕ, ◌+◌, false, is_some, List, [], Option, Some, None}
use Rattle.std.specs.Option.{option_map_or}
use Rattle.machine_model.specs.Places.{Job}
use Rattle.link_model.specs.Session.{Session, Fragment, fragment_in}
use Rattle.link_model.specs.Windows.{new_window, window_enters}
use Rattle.receiver_model.specs.Exchanging.{Exchange, all_exchanged, offered_jobs}
use Rattle.receiver_model.specs.Judging.{session_opened, keeps_datagram, ends_input}
use Rattle.receiver_model.specs.Receptions.{StandingSession, Reception}
use Rattle.receiver_model.specs.Releasing.{one_if, releases_all, all_released_bytes}

-- a first field that waits is alone
abbrev pub gives_up_field : Reception → Reception
gives_up_field r = record r {
  counts = record r.counts { unpaired = r.counts.unpaired + one_if (is_some r.field) };
  field = None;
}

abbrev pub greatest_in : Option StandingSession → ℕ
greatest_in standing = option_map_or (λ st. st.window.top) standing 0

abbrev pub newly_standing : Reception → Session → StandingSession
newly_standing r s = record {
  session = s;
  has_ended = false;
  window = new_window s.sequence r.size (greatest_in r.standing);
}

abbrev pub opens_session : Option Session → Reception → Reception
opens_session None r = r
opens_session (Some s) r = record (gives_up_field r) { standing = Some (newly_standing r s) }

-- ---- a datagram

abbrev pub jobs_of_fragment : StandingSession → Option Fragment → List Job
jobs_of_fragment st None = []
jobs_of_fragment st (Some f) = offered_jobs st.window (window_enters st.window f) f

-- one that opens a session brings no slices
abbrev pub jobs_before : Option Session → StandingSession → List ℕ → List Job
jobs_before None st datagram = jobs_of_fragment st (fragment_in st.session datagram)
jobs_before (Some next) st datagram = []

-- the jobs that it offers
unfoldable pub datagram_jobs : Reception → List ℕ → List Job
datagram_jobs r datagram =
    option_map_or (λ st. jobs_before (session_opened r datagram) st datagram) r.standing []

abbrev pub before_releases : Reception → List ℕ → List Exchange → Reception
before_releases r datagram exchanges = all_exchanged (keeps_datagram r datagram) exchanges

unfoldable pub takes_datagram : Reception → List ℕ → List Exchange → Reception
takes_datagram r datagram exchanges =
    opens_session (session_opened r datagram)
    (releases_all (before_releases r datagram exchanges))

-- what it writes
unfoldable pub datagram_bytes : Reception → List ℕ → List Exchange → List ℕ
datagram_bytes r datagram exchanges =
    all_released_bytes (before_releases r datagram exchanges)

-- ---- the end of the input

unfoldable pub takes_end : Reception → List Exchange → Reception
takes_end r exchanges =
    gives_up_field (releases_all (all_exchanged (ends_input r) exchanges))

unfoldable pub end_bytes : Reception → List Exchange → List ℕ
end_bytes r exchanges = all_released_bytes (all_exchanged (ends_input r) exchanges)

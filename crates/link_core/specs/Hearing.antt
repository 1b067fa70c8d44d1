-- Sessions with the windows of their pictures, of which none is released, so that each picture's
-- book stays.
use Rattle.std.specs.Prelude.{◌≡◌, ℕ, ◌+◌, nat_le, Bool, false, ◌&&◌, ◌||◌, is_some, if◌then◌else◌}
use Rattle.std.specs.Prelude.{List, [], ◌∷◌}
use Rattle.std.specs.Prelude.{Option, Some, None}
use Rattle.std.specs.Option.{option_and_then, option_map_or}
use Rattle.link_model.specs.Books.{Book}
use Rattle.link_model.specs.Session.{Session, Fragment, HeardSession, begins, ends, fragment_in}
use Rattle.link_model.specs.Session.{is_other}
use Rattle.link_model.specs.Windows.{Window, book_at, new_window, window_enters, window_of}
use Rattle.link_model.specs.Windows.{session_past}
use Rattle.link_core.specs.declared.datagram.Opening.{Opening}
use Rattle.vc_types.specs.SequenceHeader.{sequence_of}

abbrev pub opened_session : Opening → Session
opened_session o = record {
  ssrc = o.ssrc;
  sequence = sequence_of o.header;
  presentation = o.presentation;
}

-- a session, whether it has had its end, and the window behind its fragments
pub record SessionWindow : Type 0 where
  pub session : Session
  pub has_ended : Bool
  pub window : Window

-- the sessions of what was heard, the last one first
abbrev pub session_windows : ℕ → List HeardSession → List SessionWindow
session_windows size [] = []
session_windows size (h ∷ hs) = record {
  session = h.session;
  has_ended = h.has_ended;
  window = window_of (session_past size hs h []);
} ∷ session_windows size hs

-- ---- a datagram more

abbrev pub window_with : Window → Option Fragment → Window
window_with w None = w
window_with w (Some f) = window_enters w f

abbrev pub session_hears : SessionWindow → List ℕ → SessionWindow
session_hears s d = record s {
  has_ended = s.has_ended || ends s.session d;
  window = window_with s.window (fragment_in s.session d);
}

abbrev pub last_hears : List SessionWindow → List ℕ → List SessionWindow
last_hears [] d = []
last_hears (s ∷ ss) d = session_hears s d ∷ ss

-- the session that a header opens behind these
abbrev pub opens_beside : List SessionWindow → Option Session → Option Session
opens_beside [] o = o
opens_beside (s ∷ ss) None = None
opens_beside (s ∷ ss) (Some t) = if s.has_ended && is_other s.session t then Some t else None

-- the greatest number of their pictures
abbrev pub greatest_among : List SessionWindow → ℕ
greatest_among [] = 0
greatest_among (s ∷ ss) = s.window.top

abbrev pub begun_behind : ℕ → List SessionWindow → Session → SessionWindow
begun_behind size ss t = record {
  session = t;
  has_ended = false;
  window = new_window t.sequence size (greatest_among ss);
}

abbrev pub sessions_hear : ℕ → List SessionWindow → List ℕ → List SessionWindow
sessions_hear size ss d =
    option_map_or (λ t. begun_behind size ss t ∷ ss) (opens_beside ss (begins d))
    (last_hears ss d)

-- they are those of something that was heard
abbrev pub AreHeard : ℕ → List SessionWindow → Type 0
AreHeard size ss = (hs : List HeardSession) × (ss ≡ session_windows size hs)

-- ---- the session of a picture

abbrev pub has_book : ℕ → SessionWindow → Bool
has_book n s = is_some (book_at s.window.books n)

abbrev pub session_among : List SessionWindow → ℕ → Option SessionWindow
session_among [] n = None
session_among (s ∷ ss) n = if has_book n s then Some s else session_among ss n

-- and its book
abbrev pub book_among : List SessionWindow → ℕ → Option Book
book_among ss n = option_and_then (λ s. book_at s.window.books n) (session_among ss n)

-- ---- a picture that is closed

abbrev pub closed_among : ℕ → List SessionWindow → ℕ → Bool
closed_among size [] n = false
closed_among size (s ∷ ss) n = is_some (book_among ss n) || nat_le (n + size) s.window.top

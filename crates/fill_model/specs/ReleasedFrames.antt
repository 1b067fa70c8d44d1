-- The frames that a receiver writes, with their numbers, and which one it wrote last.
use Rattle.std.specs.Prelude.{◌≡◌, ℕ, zero, suc, List, [], ◌++◌, Option, Some, None}
use Rattle.std.specs.Option.{option_map_or}
use Rattle.link_model.specs.Session.{Session}
use Rattle.link_model.specs.Windows.{Releasable}
use Rattle.receiver_model.specs.Entering.{before_releases}
use Rattle.receiver_model.specs.Exchanging.{Exchange, all_exchanged}
use Rattle.receiver_model.specs.Judging.{session_opened, ends_input}
use Rattle.receiver_model.specs.Receptions.{StandingSession, Reception}
use Rattle.receiver_model.specs.Releasing.{released_planes, released_frame, releases_picture_of}
use Rattle.receiver_model.specs.Releasing.{next_picture, book_count}
use Rattle.fill_model.specs.Filled.{WrittenFrame, filled_behind, last_frame}
use Rattle.fill_model.specs.FilledSessions.{written_frame, frame_written_last}

-- ---- one release

abbrev pub frame_from : Reception → ℕ → StandingSession → List WrittenFrame
frame_from r n st = written_frame st.session.sequence n (released_frame st.session.sequence r.field n
    (released_planes r.answers st.window n))

-- the frame of which the picture is the last, if one is written
abbrev pub released_frames : Reception → Releasable → List WrittenFrame
released_frames r picture = option_map_or (frame_from r picture.number) r.standing []

-- ---- while a picture may be released, the next one

-- at most so many
unfoldable pub frames_up_to : ℕ → Reception → List WrittenFrame
frames_up_to zero r = []
frames_up_to (suc k) r = option_map_or
    (λ picture. released_frames r picture ++ frames_up_to k (releases_picture_of r picture))
    (next_picture r) []

abbrev pub all_released_frames : Reception → List WrittenFrame
all_released_frames r = frames_up_to (book_count r) r

-- ---- a datagram

-- the frames that it lets a receiver write
unfoldable pub datagram_frames : Reception → List ℕ → List Exchange → List WrittenFrame
datagram_frames r datagram exchanges = all_released_frames (before_releases r datagram exchanges)

-- nothing of a session is repeated in the next
abbrev pub unless_opened : Option Session → Option WrittenFrame → Option WrittenFrame
unless_opened None last = last
unless_opened (Some s) last = None

-- the frame that was written last, behind the datagram
unfoldable pub last_behind : Reception → List ℕ → List Exchange → Option WrittenFrame
    → Option WrittenFrame
last_behind r datagram exchanges last =
    unless_opened (session_opened r datagram) (last_frame last (datagram_frames r datagram exchanges))

-- what it writes
unfoldable pub datagram_filled : Reception → List ℕ → List Exchange → Option WrittenFrame → List ℕ
datagram_filled r datagram exchanges last =
    filled_behind last (datagram_frames r datagram exchanges)

-- ---- the end of the input

unfoldable pub end_filled : Reception → List Exchange → Option WrittenFrame → List ℕ
end_filled r exchanges last =
    filled_behind last (all_released_frames (all_exchanged (ends_input r) exchanges))

-- What a receiver of units writes (this project's own): for each picture that it releases, the
-- pictures of the frame of which that is the last.
use Rattle.std.specs.Prelude.{ℕ, zero, suc, Bool, is_some, is_none, List, [], ◌++◌, Option, Some, None}
use Rattle.std.specs.Option.{option_and_then, option_map_or}
use Rattle.link_model.specs.Books.{book_whole}
use Rattle.link_model.specs.Session.{Session}
use Rattle.link_model.specs.Windows.{Window, book_at, Releasable}
use Rattle.receiver_model.specs.Entering.{before_releases}
use Rattle.receiver_model.specs.Exchanging.{Exchange, all_exchanged}
use Rattle.receiver_model.specs.Judging.{session_opened, ends_input}
use Rattle.receiver_model.specs.Receptions.{StandingSession, Reception}
use Rattle.receiver_model.specs.Releasing.{released_planes, released_frame, field_behind}
use Rattle.receiver_model.specs.Releasing.{releases_picture_of, next_picture, book_count}
use Rattle.link_pictures.specs.Writing.{WrittenStream, ReleasedPicture, writes_picture}
use Rattle.link_pictures.specs.Writing.{picture_bytes, opens_stream, end_of_stream}

-- ---- one release

abbrev pub whole_in : Window → ℕ → Option (List ℕ)
whole_in w n = option_and_then book_whole (book_at w.books n)

-- the picture that a receiver releases
abbrev pub picture_from : Reception → ℕ → StandingSession → ReleasedPicture
picture_from r n st =
    let s = st.session.sequence in
    let planes = released_planes r.answers st.window n in
    record {
      number = n;
      whole = whole_in st.window n;
      has_frame = is_some (released_frame s r.field n planes);
      waits = is_some (field_behind s n planes);
    }

abbrev pub streams_picture : Reception → Releasable → WrittenStream → WrittenStream
streams_picture r picture w =
    option_map_or (λ st. writes_picture w (picture_from r picture.number st)) r.standing w

abbrev pub streamed_bytes : Reception → Releasable → WrittenStream → List ℕ
streamed_bytes r picture w =
    option_map_or (λ st. picture_bytes w (picture_from r picture.number st)) r.standing []

-- ---- while a picture may be released, the next one

-- at most so many
unfoldable pub streams_up_to : ℕ → Reception → WrittenStream → WrittenStream
streams_up_to zero r w = w
streams_up_to (suc k) r w = option_map_or
    (λ picture. streams_up_to k (releases_picture_of r picture) (streams_picture r picture w))
    (next_picture r) w

unfoldable pub streamed_up_to : ℕ → Reception → WrittenStream → List ℕ
streamed_up_to zero r w = []
streamed_up_to (suc k) r w = option_map_or
    (λ picture. streamed_bytes r picture w
    ++ streamed_up_to k (releases_picture_of r picture) (streams_picture r picture w))
    (next_picture r) []

abbrev pub streams_all : Reception → WrittenStream → WrittenStream
streams_all r w = streams_up_to (book_count r) r w

abbrev pub all_streamed_bytes : Reception → WrittenStream → List ℕ
all_streamed_bytes r w = streamed_up_to (book_count r) r w

-- ---- a datagram

-- the session that it opens, if it opens one
abbrev pub opens_stream_for : Option Session → Bool → List ℕ → WrittenStream → WrittenStream
opens_stream_for None is_first datagram w = w
opens_stream_for (Some s) is_first datagram w = opens_stream w is_first datagram

unfoldable pub stream_takes : Reception → List ℕ → List Exchange → WrittenStream → WrittenStream
stream_takes r datagram exchanges w =
    opens_stream_for (session_opened r datagram) (is_none r.standing) datagram
    (streams_all (before_releases r datagram exchanges) w)

-- what it writes
unfoldable pub datagram_units : Reception → List ℕ → List Exchange → WrittenStream → List ℕ
datagram_units r datagram exchanges w =
    all_streamed_bytes (before_releases r datagram exchanges) w

-- ---- the end of the input

unfoldable pub stream_takes_end : Reception → List Exchange → WrittenStream → WrittenStream
stream_takes_end r exchanges w = streams_all (all_exchanged (ends_input r) exchanges) w

unfoldable pub end_units : Reception → List Exchange → WrittenStream → List ℕ
end_units r exchanges w =
    all_streamed_bytes (all_exchanged (ends_input r) exchanges) w
    ++ end_of_stream (stream_takes_end r exchanges w)

-- What a receiver writes: raw frames, raw frames without gaps, or the units of a stream.
use Rattle.std.specs.Prelude.{ℕ, Bool, List, [], Option}
use Rattle.fill_model.specs.Filled.{filled_behind, last_frame}
use Rattle.fill_model.specs.ReleasedFrames.{released_frames, frames_up_to, unless_opened, last_behind}
use Rattle.fill_model.specs.ReleasedFrames.{datagram_filled, end_filled}
use Rattle.link_model.specs.Session.{Session}
use Rattle.link_model.specs.Windows.{Releasable}
use Rattle.receiver_model.specs.Entering.{datagram_bytes, end_bytes}
use Rattle.receiver_model.specs.Exchanging.{Exchange}
use Rattle.receiver_model.specs.Receptions.{Reception}
use Rattle.receiver_model.specs.Releasing.{released_bytes, bytes_up_to, book_count}
use Rattle.link_pictures.specs.Writing.{end_of_stream}
use Rattle.link_pictures.specs.Receiving.{streams_picture, streamed_bytes, streams_up_to}
use Rattle.link_pictures.specs.Receiving.{streamed_up_to, opens_stream_for, stream_takes}
use Rattle.link_pictures.specs.Receiving.{datagram_units, end_units}
use Rattle.link_pictures.specs.declared.written.Written.{Written}
use Rattle.link_pictures.specs.declared.written.Written.TheVariants.{Frames, Filled, Units}

-- ---- of a picture that is released

abbrev pub released_output : Written → Reception → Releasable → List ℕ
released_output Frames r picture = released_bytes r picture
released_output (Filled last) r picture = filled_behind last (released_frames r picture)
released_output (Units w) r picture = streamed_bytes r picture w

abbrev pub written_behind_picture : Written → Reception → Releasable → Written
written_behind_picture Frames r picture = Frames
written_behind_picture (Filled last) r picture = Filled (last_frame last (released_frames r picture))
written_behind_picture (Units w) r picture = Units (streams_picture r picture w)

-- ---- of at most so many

abbrev pub output_up_to : Written → ℕ → Reception → List ℕ
output_up_to Frames k r = bytes_up_to k r
output_up_to (Filled last) k r = filled_behind last (frames_up_to k r)
output_up_to (Units w) k r = streamed_up_to k r w

abbrev pub written_behind_up_to : Written → ℕ → Reception → Written
written_behind_up_to Frames k r = Frames
written_behind_up_to (Filled last) k r = Filled (last_frame last (frames_up_to k r))
written_behind_up_to (Units w) k r = Units (streams_up_to k r w)

-- ---- of all that may be released

abbrev pub all_released_output : Written → Reception → List ℕ
all_released_output written r = output_up_to written (book_count r) r

abbrev pub written_behind_all : Written → Reception → Written
written_behind_all written r = written_behind_up_to written (book_count r) r

-- ---- of a datagram

abbrev pub datagram_output : Written → Reception → List ℕ → List Exchange → List ℕ
datagram_output Frames r datagram exchanges = datagram_bytes r datagram exchanges
datagram_output (Filled last) r datagram exchanges = datagram_filled r datagram exchanges last
datagram_output (Units w) r datagram exchanges = datagram_units r datagram exchanges w

-- the session that it opens, if it opens one
abbrev pub written_behind_opening : Option Session → Bool → List ℕ → Written → Written
written_behind_opening opening is_first datagram Frames = Frames
written_behind_opening opening is_first datagram (Filled last) = Filled (unless_opened opening last)
written_behind_opening opening is_first datagram (Units w) =
    Units (opens_stream_for opening is_first datagram w)

abbrev pub written_behind_datagram : Written → Reception → List ℕ → List Exchange → Written
written_behind_datagram Frames r datagram exchanges = Frames
written_behind_datagram (Filled last) r datagram exchanges =
    Filled (last_behind r datagram exchanges last)
written_behind_datagram (Units w) r datagram exchanges = Units (stream_takes r datagram exchanges w)

-- ---- of the end of the input

abbrev pub written_at_end : Written → List ℕ
written_at_end Frames = []
written_at_end (Filled last) = []
written_at_end (Units w) = end_of_stream w

abbrev pub end_output : Written → Reception → List Exchange → List ℕ
end_output Frames r exchanges = end_bytes r exchanges
end_output (Filled last) r exchanges = end_filled r exchanges last
end_output (Units w) r exchanges = end_units r exchanges w

-- The laws of a stream that is written.
use Rattle.std.proofs.Common.{◌≡◌, ℕ, ◌≤◌, false, refl, List, [], ◌∷◌, ◌++◌}
use Rattle.machine_model.specs.Feeders.{Feeder}
use Rattle.receiver_model.specs.Entering.{takes_datagram}
use Rattle.receiver_model.specs.Exchanging.{Exchange, dones_in}
use Rattle.receiver_model.specs.Receptions.{Reception, new_reception}
use Rattle.receiver_model.specs.Standing.{StandsFor, AreDecodings}
use Rattle.stream_model.specs.Streams.{first_header, first_pictures_so_far, stream_so_far, stream_of}
use Rattle.link_pictures.specs.Writing.{WrittenStream, nothing_written}
use Rattle.link_pictures.specs.Receiving.{stream_takes, datagram_units, end_units}
use Rattle.link_pictures.specs.Standing.{StreamsFor}
use Rattle.link_pictures.proofs.AtEnd.{ends}
use Rattle.link_pictures.proofs.Datagrams.{grows}

pub new_streams : (size : ℕ) → StreamsFor (new_reception size) nothing_written size []
unfolding first_header first_pictures_so_far
new_streams size = record { header = refl; over = refl; field = refl; previous = refl }

module _ (r : Reception) (size : ℕ) (f : Feeder) (w : WrittenStream) (small : size ≤ 8)
    (stands : StandsFor r size f) (runs : f.has_ended ≡ false)
    (streams : StreamsFor r w size f.heard) (xs : List Exchange)
    (right : AreDecodings (dones_in xs)) where
  pub stream_follows : (d : List ℕ)
      → StreamsFor (takes_datagram r d xs) (stream_takes r d xs w) size (f.heard ++ d ∷ [])
  stream_follows d = (grows r size f small stands runs w streams xs right d).follows

  pub stream_grows : (d : List ℕ) → stream_so_far size (f.heard ++ d ∷ [])
      ≡ stream_so_far size f.heard ++ datagram_units r d xs w
  stream_grows d = (grows r size f small stands runs w streams xs right d).bytes

  pub stream_ends : stream_of size f.heard ≡ stream_so_far size f.heard ++ end_units r xs w
  stream_ends = ends r size f small stands runs w streams xs right

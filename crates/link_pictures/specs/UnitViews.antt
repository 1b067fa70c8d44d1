-- What code has of a released picture, as plain data.
use Rattle.std.specs.Option.{option_map}
use Rattle.link_pictures.specs.Writing.{ReleasedPicture}
use Rattle.link_pictures.specs.declared.stream.ReleasedPicture as code

abbrev pub released_picture : code.ReleasedPicture → ReleasedPicture
released_picture p = record {
  number = p.number;
  whole = option_map (λ bytes. bytes.items) p.whole;
  has_frame = p.has_frame;
  waits = p.waits;
}

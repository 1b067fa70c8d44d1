-- What code keeps of a field that waits, and of the frame that was written last, as plain data.
use Rattle.fill_model.specs.Filled.{WrittenFrame}
use Rattle.receiver_model.specs.Receptions.{FirstField}
use Rattle.vc_types.specs.Planes.{planes_in}
use Rattle.link_pictures.specs.declared.filled.LastFrame.{LastFrame}
use Rattle.link_pictures.specs.declared.pairing.Field.{Field}

abbrev pub first_field_of : Field → FirstField
first_field_of field = record { number = field.number; planes = planes_in field.planes }

abbrev pub frame_of : LastFrame → WrittenFrame
frame_of frame = record { number = frame.number; bytes = frame.bytes.items }

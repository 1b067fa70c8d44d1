-- What code keeps, as plain data.
use Rattle.std.specs.Prelude.{Option}
use Rattle.std.specs.Option.{option_map}
use Rattle.frame_writer.specs.declared.fault.FrameFault.{FrameFault}
use Rattle.frame_writer.specs.declared.fault.FrameFault.TheVariants as frame
use Rattle.cmd_stream.specs.declared.play_fault.TakeFault.{TakeFault}
use Rattle.cmd_stream.specs.declared.play_fault.TakeFault.TheVariants as fault
use Rattle.vc_types.specs.Planes.{planes_in}
use Rattle.vc_types.specs.SequenceHeader.{sequence_of}
use Rattle.cmd_stream.specs.Stream.{StreamPicture}
use Rattle.cmd_stream.specs.PlaySteps.{PlayState}
use Rattle.cmd_stream.specs.declared.picture.Picture as coded
use Rattle.cmd_stream.specs.declared.playback.Playback.{Playback}
use Rattle.cmd_stream.specs.declared.player.Player.{Player}

abbrev pub picture_of : coded.Picture → StreamPicture
picture_of p = record { number = p.number; planes = planes_in p.planes }

abbrev pub playback_state : Playback → PlayState
playback_state s = record {
  coding = s.coding;
  sequence = sequence_of s.header;
  presentation = s.presentation;
  waiting = option_map picture_of s.waiting;
  pictures = s.pictures;
  frames = s.frames;
}

abbrev pub player_state : Player → Option PlayState
player_state p = option_map playback_state p.stream

abbrev pub take_fault : FrameFault → TakeFault
take_fault frame.WriteFault = fault.WriteFault
take_fault frame.NoMemory = fault.NoMemory

-- What reading a raw frame from a source did.
use Rattle.std.specs.Prelude.{◌≡◌, ◌≢◌, ◌<◌, ℕ, List, [], length, Option, Some, None, Result, Ok, Err}
use Rattle.frame_writer.specs.FrameBytes.{frame_of_bytes, frame_length}
use Rattle.frame_writer.specs.declared.read_fault.FrameReadFault.{FrameReadFault}
use Rattle.frame_writer.specs.declared.read_fault.FrameReadFault.TheVariants.{Cut, ReadFault, NoMemory}
use Rattle.vc_ports.specs.Reading.{Gave, GaveAll}
use Rattle.vc_types.specs.declared.shape.Shape.{Shape}
use Rattle.vc_types.specs.Planes.{Planes, planes_in}
use Rattle.vc_types.specs.Rasters.{Raster}

-- a frame's bytes were given
pub record GaveFrame (shape : Shape) (before after : Option (List ℕ)) (frame : Planes)
    : Type 0 where
  pub bytes : List ℕ
  pub whole : length bytes ≡ frame_length shape
  pub gave : Gave before after bytes
  pub frame_is : frame ≡ frame_of_bytes shape bytes

-- fewer bytes than a frame has were given
pub record GavePartOfFrame (shape : Shape) (before after : Option (List ℕ)) : Type 0 where
  pub part : List ℕ
  pub gave : Gave before after part
  pub short : length part < frame_length shape

-- these were all that was left
pub record GaveCutFrame (shape : Shape) (before after : Option (List ℕ)) : Type 0 where
  pub part : List ℕ
  pub gave : GaveAll before after part
  pub some : part ≢ []
  pub short : length part < frame_length shape

-- what reading a frame did to its source, by the answer
abbrev pub ReadsFrame : Shape → Option (List ℕ) → Option (List ℕ)
    → Result (Option (List Raster)) FrameReadFault → Type 0
ReadsFrame shape before after (Ok (Some planes)) = GaveFrame shape before after (planes_in planes)
ReadsFrame shape before after (Ok None) = GaveAll before after []
ReadsFrame shape before after (Err Cut) = GaveCutFrame shape before after
ReadsFrame shape before after (Err ReadFault) = GavePartOfFrame shape before after
ReadsFrame shape before after (Err NoMemory) = after ≡ before

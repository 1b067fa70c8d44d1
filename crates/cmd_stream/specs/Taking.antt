-- What is done with a unit.
use Rattle.std.specs.Prelude.{◌≡◌, ℕ, ◌≤◌, List, ◌++◌, if◌then◌else◌, Option}
use Rattle.std.specs.Prelude.{Some, None, Result, Ok, Err, IfSome, false}
use Rattle.std.specs.Option.{option_map, option_to_list}
use Rattle.frame_writer.specs.Samples.{HaveByteSamples}
use Rattle.vc_types.specs.RawFrames.{is_wide}
use Rattle.vc_ports.specs.Writing.{Grew, GrewBySome}
use Rattle.vc_types.specs.Planes.{Planes, planes_in}
use Rattle.vc_types.specs.Rasters.{Raster}
use Rattle.vc_types.specs.SequenceHeader.{picture_shape}
use Rattle.vc_types.specs.DataUnits.{DataUnit}
use Rattle.cmd_stream.specs.declared.play_fault.TakeFault.{TakeFault}
use Rattle.cmd_stream.specs.declared.play_fault.TakeFault.TheVariants as faults
use Rattle.frame_writer.specs.Shapes.{HaveShape}
use Rattle.cmd_stream.specs.PlaySteps.{PlayState, stream_state, shown, new_frames}
use Rattle.cmd_stream.specs.Stream.{Stream, StreamPicture, begun_by, repeats, picture_in, takes}
use Rattle.cmd_stream.specs.Stream.{played, raw_frames}

-- the field that waits has the shape of the sequence's pictures
abbrev pub HasShape : PlayState → Type 0
HasShape k = IfSome k.waiting (λ p. HaveShape (picture_shape k.sequence) p.planes)

-- the frame that a picture brings, if it brings one
abbrev pub is_frame : Option (List Raster) → List Planes
is_frame frame = option_to_list (option_map planes_in frame)

-- a picture was kept, and this is the frame to be written, which has bytes as its shape says
pub record CompletesFrame
    (old : PlayState) (p : StreamPicture) (new : PlayState) (frame : Option (List Raster))
    : Type 0 where
  pub state : new ≡ record old { waiting = (shown old p).waiting }
  pub frame_is : is_frame frame ≡ new_frames old.sequence old.waiting p
  pub narrow : is_wide (picture_shape old.sequence) ≡ false
      → IfSome frame (λ planes. HaveByteSamples (planes_in planes))

-- the raw bytes of the frame that a picture brings
abbrev pub frame_due : PlayState → StreamPicture → List ℕ
frame_due k p = raw_frames k.sequence (new_frames k.sequence k.waiting p)

-- a picture was taken, and the frame that it brings went out
pub record IsShown (body : List ℕ) (old new : PlayState) (before after : Option (List ℕ))
    : Type 0 where
  pub picture : StreamPicture
  pub read : picture_in old.coding old.sequence body ≡ Some picture
  pub state : new ≡ shown old picture
  pub grew : Grew before after (frame_due old picture)

-- a picture was taken, and a prefix of the frame that it brings went out
pub record IsPartlyShown (body : List ℕ) (old : PlayState) (before after : Option (List ℕ))
    : Type 0 where
  pub picture : StreamPicture
  pub read : picture_in old.coding old.sequence body ≡ Some picture
  pub grew : GrewBySome before after (frame_due old picture)

-- what was done with a picture
abbrev pub ShowsPicture : List ℕ → PlayState → PlayState → Option (List ℕ) → Option (List ℕ)
    → Result (Unit {0}) TakeFault → Type 0
ShowsPicture body old new before after (Ok done) = IsShown body old new before after
ShowsPicture body old new before after (Err faults.WriteFault) = IsPartlyShown body old before after
ShowsPicture body old new before after (Err faults.Refused) =
    (picture_in old.coding old.sequence body ≡ None) × (after ≡ before)
ShowsPicture body old new before after (Err faults.NoMemory) = after ≡ before

-- a header more: the first one begins a stream, and others repeat it
abbrev pub agreed_state : Option PlayState → List ℕ → Option PlayState
agreed_state None body = option_map stream_state (begun_by body)
agreed_state (Some k) body = if repeats k.coding k.sequence body then Some k else None

-- a header was taken, or refused
abbrev pub Agrees : List ℕ → Option PlayState → Option PlayState → Result (Unit {0}) TakeFault
    → Type 0
Agrees body old new (Ok done) =
    (k : PlayState) × (agreed_state old body ≡ Some k) × (new ≡ Some k)
Agrees body old new (Err faults.Refused) = agreed_state old body ≡ None
Agrees body old new (Err other) = ⊥

-- what is kept after so many units at most
pub record HasAtMost (units : ℕ) (k : PlayState) : Type 0 where
  pub pictures : k.pictures ≤ units
  pub frames : k.frames ≤ k.pictures
  pub shape : HasShape k

abbrev pub CountsAtMost : ℕ → Option PlayState → Type 0
CountsAtMost units kept = IfSome kept (HasAtMost units)

-- a unit is taken: the stream with it, and the bytes that are due for it
pub record BringsDue (stream : Option Stream) (u : DataUnit) : Type 0 where
  pub next : Option Stream
  pub due : List ℕ
  pub taken : takes stream u ≡ Some next
  pub grows : played next ≡ played stream ++ due

-- what a unit brings to a stream, and what was written of it, or that it is refused
abbrev pub Brought : Option Stream → DataUnit → Option PlayState → Option (List ℕ) → Option (List ℕ)
    → Result (Unit {0}) TakeFault → Type 0
Brought stream u new before after (Ok done) =
    (b : BringsDue stream u) × (new ≡ option_map stream_state b.next) × Grew before after b.due
Brought stream u new before after (Err faults.WriteFault) =
    (b : BringsDue stream u) × GrewBySome before after b.due
Brought stream u new before after (Err faults.Refused) = (takes stream u ≡ None) × (after ≡ before)
Brought stream u new before after (Err faults.NoMemory) = after ≡ before

-- A field that completes a frame.
use Rattle.std.proofs.Common.{◌≡◌, true, List, [], ◌∷◌, Some, None, refl, ap}
use Rattle.vc_types.specs.FieldPairs.{woven}
use Rattle.vc_types.specs.Planes.{Planes, planes_in}
use Rattle.vc_types.specs.Rasters.{Raster}
use Rattle.vc_types.specs.SequenceHeader.{picture_shape}
use Rattle.frame_writer.specs.Shapes.{HaveShape}
use Rattle.cmd_stream.specs.PlaySteps.{PlayState}
use Rattle.cmd_stream.specs.Stream.{StreamPicture, is_pair}
use Rattle.cmd_stream.specs.Taking.{CompletesFrame}
use Rattle.picture_build.proofs.Weaving.{woven_fits}

-- what is kept when no field waits
abbrev without_waiting : PlayState → PlayState
without_waiting k = record { coding = k.coding; sequence = k.sequence; presentation = k.presentation; waiting = None; pictures = k.pictures; frames = k.frames }

pub completes-pair : (k : PlayState) (earlier p : StreamPicture) (frame : List Raster) → k.sequence.fields ≡ true → k.waiting ≡ Some earlier → is_pair earlier p ≡ true
    → HaveShape (picture_shape k.sequence) earlier.planes → HaveShape (picture_shape k.sequence) p.planes → planes_in frame ≡ woven k.sequence.top_first earlier.planes p.planes
    → CompletesFrame k p (without_waiting k) (Some frame)
completes-pair k earlier p frame fields waiting pair first second is = record {
  state = rw (fields, waiting, pair) refl;
  frame_is = rw (fields, waiting, pair) (ap (λ (planes : Planes). planes ∷ []) is);
  narrow = λ narrow. rw is (woven_fits k.sequence.top_first earlier.planes p.planes (first.narrow narrow) (second.narrow narrow));
}

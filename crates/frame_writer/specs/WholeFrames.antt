-- The whole raw frames that begin bytes.
use Rattle.std.specs.Prelude.{◌≡◌, ◌<◌, ℕ, List, ◌++◌, length, map, All}
use Rattle.std.specs.List.{concat}
use Rattle.frame_writer.specs.FrameBytes.{frame_of_bytes, frame_length}
use Rattle.vc_types.specs.declared.shape.Shape.{Shape}
use Rattle.vc_types.specs.Planes.{Planes}

-- bytes are those of these frames, one behind the other, and of a rest that is no whole frame
pub record HoldFrames (shape : Shape) (bytes : List ℕ) (frames : List Planes) (rest : List ℕ)
    : Type 0 where
  pub pieces : List (List ℕ)
  pub whole : All (λ piece. length piece ≡ frame_length shape) pieces
  pub short : length rest < frame_length shape
  pub bytes_are : bytes ≡ concat pieces ++ rest
  pub frames_are : frames ≡ map (frame_of_bytes shape) pieces

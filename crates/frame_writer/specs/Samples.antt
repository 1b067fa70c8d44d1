-- Samples as the bytes that go out.
use Rattle.std.specs.Prelude.{ℕ, ◌<◌, Bool, List, All, length}
use Rattle.frame_writer.specs.FrameBytes.{length_in}
use Rattle.vc_types.specs.Planes.{Planes}

-- each sample fits a byte
abbrev pub FitBytes : List ℕ → Type 0
FitBytes samples = All (λ sample. sample < 256) samples

-- each sample of the three planes fits a byte
pub record HaveByteSamples (planes : Planes) : Type 0 where
  pub y : FitBytes planes.y.samples
  pub c1 : FitBytes planes.c1.samples
  pub c2 : FitBytes planes.c2.samples

-- how many bytes samples have
abbrev pub byte_count : Bool → List ℕ → ℕ
byte_count two samples = length_in two (length samples)

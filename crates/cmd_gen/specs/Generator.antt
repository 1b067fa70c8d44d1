-- The generator of frames (this project's own): a state of 64 bits takes a step for each sample,
-- and the sample is the state's upper bits.
use Rattle.std.specs.Prelude.{ℕ, zero, suc, ◌+◌, ◌-◌, ◌*◌, ◌/◌, ◌%◌, ◌^◌, List, [], ◌∷◌}
use Rattle.vc_types.specs.declared.shape.Shape.{Shape}
use Rattle.vc_types.specs.declared.video.Component.{Component}
use Rattle.vc_types.specs.declared.video.Component.TheVariants.{Y, C1, C2}
use Rattle.vc_types.specs.Planes.{Planes}
use Rattle.vc_types.specs.Rasters.{Raster}
use Rattle.vc_types.specs.Subbands.{plane_width, plane_height, plane_depth}

-- ---- states

unfoldable pub next_state : ℕ → ℕ
next_state z = (6364136223846793005 * z + 1442695040888963407) % 2 ^ 64

-- the state behind so many samples
unfoldable pub state_behind : ℕ → ℕ → ℕ
state_behind z zero = z
state_behind z (suc count) = next_state (state_behind z count)

-- ---- samples

-- the upper bits of a state, as many as a sample has
abbrev pub sample_of : ℕ → ℕ → ℕ
sample_of depth z = z / 2 ^ (64 - depth)

-- so many samples behind a state: each after one step more
unfoldable pub generated_samples : ℕ → ℕ → ℕ → List ℕ
generated_samples depth z zero = []
generated_samples depth z (suc count) =
    sample_of depth (next_state z) ∷ generated_samples depth (next_state z) count

-- ---- frames

-- how many samples a component's plane has, and how many the planes before it have
abbrev pub plane_samples : Shape → Component → ℕ
plane_samples shape c = plane_width shape c * plane_height shape c

abbrev pub samples_before : Shape → Component → ℕ
samples_before shape Y = 0
samples_before shape C1 = plane_samples shape Y
samples_before shape C2 = plane_samples shape Y + plane_samples shape C1

abbrev pub frame_samples : Shape → ℕ
frame_samples shape = plane_samples shape Y + plane_samples shape C1 + plane_samples shape C2

-- a plane behind a state, row by row
abbrev pub plane_behind : ℕ → (width height depth : ℕ) → Raster
plane_behind z width height depth = record {
  width = width;
  height = height;
  samples = generated_samples depth z (width * height);
}

-- a component's plane of the frame behind a state
abbrev pub generated_plane : Shape → ℕ → Component → Raster
generated_plane shape z c =
    plane_behind (state_behind z (samples_before shape c))
    (plane_width shape c) (plane_height shape c) (plane_depth shape c)

-- the frame behind a state: the planes Y, C1 and C2 one after another
unfoldable pub generated_frame : Shape → ℕ → Planes
generated_frame shape z = record {
  y = generated_plane shape z Y;
  c1 = generated_plane shape z C1;
  c2 = generated_plane shape z C2;
}

-- so many frames behind a state, one after another
unfoldable pub generated_frames : Shape → ℕ → ℕ → List Planes
generated_frames shape z zero = []
generated_frames shape z (suc count) =
    generated_frame shape z
    ∷ generated_frames shape (state_behind z (frame_samples shape)) count

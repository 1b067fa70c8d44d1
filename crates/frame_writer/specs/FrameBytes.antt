-- Raw frames as they are read (this project's own): the planes Y, C1 and C2 one after another, each
-- row by row.
use Rattle.std.specs.Prelude.{ℕ, ◌+◌, ◌*◌, Bool, true, false, if◌then◌else◌, List, [], ◌∷◌, take, drop}
use Rattle.vc_types.specs.declared.shape.Shape.{Shape}
use Rattle.vc_types.specs.declared.video.Component.{Component}
use Rattle.vc_types.specs.declared.video.Component.TheVariants.{Y, C1, C2}
use Rattle.vc_types.specs.Planes.{Planes}
use Rattle.vc_types.specs.Rasters.{Raster}
use Rattle.vc_types.specs.RawFrames.{is_wide}
use Rattle.vc_types.specs.Subbands.{plane_width, plane_height}

-- samples of two bytes, the lowest first, or of one
unfoldable pub samples_of_bytes : Bool → List ℕ → List ℕ
samples_of_bytes true (low ∷ high ∷ bytes) = (low + 256 * high) ∷ samples_of_bytes true bytes
samples_of_bytes true bytes = []
samples_of_bytes false bytes = bytes

-- how many samples a component's plane has
abbrev pub sample_count : Shape → Component → ℕ
sample_count shape c = plane_width shape c * plane_height shape c

-- how many bytes so many samples have
abbrev pub length_in : Bool → ℕ → ℕ
length_in two samples = if two then 2 * samples else samples

-- how many bytes so many samples of a frame have
abbrev pub length_of_samples : Shape → ℕ → ℕ
length_of_samples shape samples = length_in (is_wide shape) samples

abbrev pub plane_length : Shape → Component → ℕ
plane_length shape c = length_of_samples shape (sample_count shape c)

-- how many bytes a frame has
abbrev pub frame_length : Shape → ℕ
frame_length shape =
    length_of_samples shape
    (sample_count shape Y + (sample_count shape C1 + sample_count shape C2))

-- a component's plane, of its bytes
abbrev pub plane_of_bytes : Shape → Component → List ℕ → Raster
plane_of_bytes shape c bytes = record {
  width = plane_width shape c;
  height = plane_height shape c;
  samples = samples_of_bytes (is_wide shape) bytes;
}

-- the colour planes, of their bytes, behind a luma plane
abbrev pub planes_of_bytes : Shape → List ℕ → List ℕ → Planes
planes_of_bytes shape luma colour = record {
  y = plane_of_bytes shape Y luma;
  c1 = plane_of_bytes shape C1 (take (plane_length shape C1) colour);
  c2 = plane_of_bytes shape C2 (drop (plane_length shape C1) colour);
}

-- the frame that has these bytes
unfoldable pub frame_of_bytes : Shape → List ℕ → Planes
frame_of_bytes shape bytes =
    planes_of_bytes shape
    (take (plane_length shape Y) bytes) (drop (plane_length shape Y) bytes)

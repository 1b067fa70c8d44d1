-- Two fields and their frame (this project's own): the rows of the frame are those of the fields in
-- turn, and with the top field first its first row is the earlier's.
use Rattle.std.specs.Prelude.{ℕ, ◌+◌, ◌*◌, ◌/◌, ◌%◌, Bool, ◌==◌, if◌then◌else◌}
use Rattle.vc_types.specs.Planes.{Planes}
use Rattle.vc_types.specs.Rasters.{Raster, raster, sample_at}

-- a function of components on each of them
abbrev pub of_each : (Raster → Raster → Raster) → Planes → Planes → Planes
of_each f a b = record { y = f a.y b.y; c1 = f a.c1 b.c1; c2 = f a.c2 b.c2 }

abbrev pub on_each : (Raster → Raster) → Planes → Planes
on_each f planes = record { y = f planes.y; c1 = f planes.c1; c2 = f planes.c2 }

-- even rows from one plane, odd rows from another
unfoldable pub interleaved_rows : Raster → Raster → Raster
interleaved_rows even odd = record {
  width = even.width;
  height = 2 * even.height;
  samples = raster even.width (2 * even.height)
      (λ x y. sample_at (if y % 2 == 0 then even else odd) x (y / 2));
}

-- every other row, from row 0 or row 1 on
unfoldable pub every_other_row : ℕ → Raster → Raster
every_other_row first frame = record {
  width = frame.width;
  height = frame.height / 2;
  samples = raster frame.width (frame.height / 2) (λ x y. sample_at frame x (2 * y + first));
}

-- the frame of two fields
abbrev pub woven : Bool → Planes → Planes → Planes
woven top_first earlier later =
    if top_first then of_each interleaved_rows earlier later
    else of_each interleaved_rows later earlier

-- the two fields of a frame, the earlier first
abbrev pub fields_of : Bool → Planes → Planes × Planes
fields_of top_first frame =
    if top_first then (on_each (every_other_row 0) frame, on_each (every_other_row 1) frame)
    else (on_each (every_other_row 1) frame, on_each (every_other_row 0) frame)

-- The samples of one row of a plane.
use Rattle.std.specs.Prelude.{ℕ, List, map}
use Rattle.std.specs.List.{range_with_len}
use Rattle.vc_types.specs.Rasters.{Raster, sample_at}

abbrev pub row_of : Raster → ℕ → List ℕ
row_of plane y = map (λ x. sample_at plane x y) (range_with_len 0 plane.width)

-- What weaving and splitting need of the sizes of planes, component by component.
use Rattle.std.specs.Prelude.{◌≡◌, ℕ, ◌*◌, ◌%◌, ◌≤◌, length}
use Rattle.vc_types.specs.Planes.{Planes}
use Rattle.vc_types.specs.Rasters.{Raster}

-- as many columns and rows
pub record HasSizeOf (a b : Raster) : Type 0 where
  pub width : a.width ≡ b.width
  pub height : a.height ≡ b.height

-- as many samples as its size says
abbrev pub IsWhole : Raster → Type 0
IsWhole plane = length plane.samples ≡ plane.width * plane.height

pub record HaveEqualSizes (a b : Planes) : Type 0 where
  pub y : HasSizeOf a.y b.y
  pub c1 : HasSizeOf a.c1 b.c1
  pub c2 : HasSizeOf a.c2 b.c2

pub record HaveHeightsUpTo (most : ℕ) (planes : Planes) : Type 0 where
  pub y : planes.y.height ≤ most
  pub c1 : planes.c1.height ≤ most
  pub c2 : planes.c2.height ≤ most

pub record HaveEvenHeights (planes : Planes) : Type 0 where
  pub y : planes.y.height % 2 ≡ 0
  pub c1 : planes.c1.height % 2 ≡ 0
  pub c2 : planes.c2.height % 2 ≡ 0

pub record AreWhole (planes : Planes) : Type 0 where
  pub y : IsWhole planes.y
  pub c1 : IsWhole planes.c1
  pub c2 : IsWhole planes.c2

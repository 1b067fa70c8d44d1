-- A slice's parts in the grids of a picture.
use Rattle.std.specs.Prelude.{◌≡◌, List, ℤ}
use Rattle.link_model.specs.SendingPictures.{numbers_in_slice, sent_coefficients}
use Rattle.picture_encode.specs.declared.grids.ComponentGrid.{ComponentGrid}
use Rattle.picture_encode.specs.declared.grids.PictureGrids.{PictureGrids}
use Rattle.picture_encode.specs.Grids as grids
use Rattle.vc_slice.specs.declared.bands.SliceParts.{SliceParts}
use Rattle.vc_types.specs.declared.video.Component.{Component}
use Rattle.vc_types.specs.Planes.{Planes}
use Rattle.vc_types.specs.Rasters.{Lattice}
use Rattle.vc_types.specs.Slices.{Coefficients}
use Rattle.vc_types.specs.TransformParameters.{parameters_of}
use Rattle.vc_types.specs.Transforms.{Cells}

abbrev pub IsNarrowGrid : SliceParts → Component → List ℤ → Type 0
IsNarrowGrid parts = grids.IsNarrowGrid (parameters_of parts.plan)

abbrev pub IsWideGrid : SliceParts → Component → Lattice → Type 0
IsWideGrid parts = grids.IsWideGrid (parameters_of parts.plan)

abbrev pub IsGrid : SliceParts → Component → ComponentGrid → Type 0
IsGrid parts = grids.IsGrid (parameters_of parts.plan)

abbrev pub AreGrids : SliceParts → PictureGrids → Type 0
AreGrids parts = grids.AreGrids (parameters_of parts.plan)

-- the slice's numbers of a component
abbrev pub numbers_in : SliceParts → Component → Cells → List ℤ
numbers_in parts c cells = numbers_in_slice (parameters_of parts.plan) c cells parts.slice

abbrev pub narrow_numbers : SliceParts → Component → List ℤ → List ℤ
narrow_numbers parts c cells = grids.narrow_numbers (parameters_of parts.plan) c cells parts.slice

-- its coefficients
abbrev pub slice_in_grids : SliceParts → PictureGrids → Coefficients
slice_in_grids parts g = grids.slice_in_grids (parameters_of parts.plan) g parts.slice

-- coefficients are those that the slice has in these planes
abbrev pub AreOf : Planes → SliceParts → Coefficients → Type 0
AreOf planes parts coeffs = coeffs ≡ sent_coefficients (parameters_of parts.plan) planes parts.slice

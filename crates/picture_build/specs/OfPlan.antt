-- What the cells of a picture of a plan hold.
use Rattle.std.specs.Prelude.{◌≡◌, List, ℤ}
use Rattle.vc_types.specs.declared.plan.Plan.{Plan}
use Rattle.vc_types.specs.declared.video.Component.{Component}
use Rattle.vc_types.specs.Planes.{Planes, component_plane, planes_of}
use Rattle.vc_types.specs.Rasters.{Raster}
use Rattle.vc_types.specs.Slices.{Coefficients}
use Rattle.vc_types.specs.TransformParameters.{parameters_of}
use Rattle.picture_build.specs.Kept.{AllAreIn, AreIn}

-- a component of all slices of some picture
abbrev pub HoldsComponent : Plan → Component → List ℤ → Type 0
HoldsComponent plan c cells = (slices : List Coefficients) × AreIn (parameters_of plan) c slices cells

-- a plane is that of a component of each picture whose slices the cells hold
abbrev pub IsPlaneOf : Plan → Component → List ℤ → Raster → Type 0
IsPlaneOf plan c cells plane = (slices : List Coefficients)
    → AreIn (parameters_of plan) c slices cells → plane ≡ component_plane (parameters_of plan) c slices

-- and planes are those of all its components
abbrev pub ArePlanesOf : Plan → List ℤ → List ℤ → List ℤ → Planes → Type 0
ArePlanesOf plan y c1 c2 planes = (slices : List Coefficients)
    → AllAreIn (parameters_of plan) slices y c1 c2 → planes ≡ planes_of (parameters_of plan) slices

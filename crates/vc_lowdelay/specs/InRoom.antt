-- What a room holds of a picture.
use Rattle.std.specs.Prelude.{◌≡◌, ℕ, List}
use Rattle.vc_types.specs.declared.plan.Plan.{Plan}
use Rattle.vc_types.specs.declared.video.Component.TheVariants.{Y, C1, C2}
use Rattle.vc_types.specs.Planes.{Planes}
use Rattle.vc_types.specs.TransformParameters.{parameters_of}
use Rattle.vc_lowdelay.specs.declared.plan.LowPlan.{LowPlan}
use Rattle.vc_lowdelay.specs.declared.room.LowRoom.{LowRoom}
use Rattle.vc_lowdelay.specs.Decoded.{IsDecodable}
use Rattle.vc_lowdelay.specs.Narrow.{HasPaddedSize, HoldsGrown, kept_plane}
use Rattle.vc_lowdelay.specs.OfPlan.{low_parameters_of}

-- as many cells as the components of a plan's picture
pub record HasCells (plan : Plan) (room : LowRoom) : Type 0 where
  pub y : HasPaddedSize (parameters_of plan) Y room.y.items
  pub c1 : HasPaddedSize (parameters_of plan) C1 room.c1.items
  pub c2 : HasPaddedSize (parameters_of plan) C2 room.c2.items

-- the components of the picture of these bytes, with LL as it has grown, where nothing is too large
pub record HoldsPicture (p : LowPlan) (bytes : List ℕ) (room : LowRoom) : Type 0 where
  pub y : HoldsGrown (low_parameters_of p) bytes Y room.y.items
  pub c1 : HoldsGrown (low_parameters_of p) bytes C1 room.c1.items
  pub c2 : HoldsGrown (low_parameters_of p) bytes C2 room.c2.items
  pub sound : IsDecodable (low_parameters_of p) bytes

-- planes are those of its cells
pub record AreKeptPlanes (plan : Plan) (room : LowRoom) (planes : Planes) : Type 0 where
  pub y : planes.y ≡ kept_plane (parameters_of plan) Y room.y.items
  pub c1 : planes.c1 ≡ kept_plane (parameters_of plan) C1 room.c1.items
  pub c2 : planes.c2 ≡ kept_plane (parameters_of plan) C2 room.c2.items

-- What is true of the books of a session's window, and of the planes of its pictures: slices are
-- whole, and pictures have the sequence's shape.
use Rattle.std.specs.Prelude.{◌≡◌, ℕ, List, length, Some}
use Rattle.link_model.specs.Books.{Gathered, Book, slot_at}
use Rattle.vc_types.specs.Planes.{Planes, planes_of}
use Rattle.vc_types.specs.SequenceHeader.{Sequence, picture_shape}
use Rattle.vc_types.specs.Slices.{Coefficients, slice_length}
use Rattle.vc_types.specs.Subbands.{slice_count}
use Rattle.vc_types.specs.TransformParameters.{Parameters}

-- there is a slot for each slice, and what stands in it is one whole slice
pub record IsWholeGathered (s : Sequence) (g : Gathered) : Type 0 where
  pub shape : g.plan.parameters.shape ≡ picture_shape s
  pub slots : length g.slots ≡ slice_count g.plan.parameters
  pub slices : (i : ℕ) (bytes : List ℕ) → slot_at g.slots i ≡ Some bytes
      → slice_length g.plan.parameters.prefix g.plan.parameters.scaler bytes ≡ Some (length bytes)

abbrev pub IsWholeBook : Sequence → Book → Type 0
IsWholeBook s book = (g : Gathered) → book.gathered ≡ Some g → IsWholeGathered s g

-- planes of a picture of the sequence
pub record ArePicturePlanes (s : Sequence) (planes : Planes) : Type 0 where
  pub parameters : Parameters
  pub slices : List Coefficients
  pub shape : parameters.shape ≡ picture_shape s
  pub are : planes ≡ planes_of parameters slices

-- What reading the slices of a picture gives.
use Rattle.std.specs.Prelude.{◌≡◌, ◌<◌, ◌≤◌, ℕ, suc, ◌+◌, Bool, true, false, List, ◌∷◌, ◌++◌}
use Rattle.std.specs.Prelude.{length, slice_index_or, Option, Some, None, Result, Ok, Err}
use Rattle.vc_types.specs.SliceCoefficients.{AreSliceCoefficients}
use Rattle.picture_build.specs.Kept.{PartPicture, slice_that_came, with_slice, slices_of, HasAllSlices}
use Rattle.vc_types.specs.Fields.{and_then}
use Rattle.vc_types.specs.Pictures.{slices_from}
use Rattle.vc_types.specs.Planes.{planes_in, planes_of}
use Rattle.vc_types.specs.Rasters.{Raster}
use Rattle.vc_types.specs.declared.refusal.Unsound.{Unsound}
use Rattle.vc_types.specs.Slices.{Coefficients, slice_coefficients}
use Rattle.vc_types.specs.Subbands.{slice_count}
use Rattle.vc_types.specs.TransformParameters.{Parameters}

-- slices that were read before others
abbrev pub slices_behind : List Coefficients → Result (List Coefficients × List ℕ) (Unit {0})
    → Result (List Coefficients × List ℕ) (Unit {0})
slices_behind done (Ok read) = Ok (done ++ read.0, read.1)
slices_behind done (Err short) = Err short

-- the slice with this number, and the slices behind it; none where it is refused
abbrev pub GaveSlice : Parameters → ℕ → List ℕ → List ℕ → Option Coefficients → Type 0
GaveSlice p index old new None = (n : ℕ) → slices_from p index (suc n) old ≡ Err tt
GaveSlice p index old new (Some s) =
    AreSliceCoefficients p index s
    × ((n : ℕ) → slices_from p index (suc n) old
    ≡ and_then (slices_from p (index + 1) n new) (λ read. Ok (s ∷ read.0, read.1)))

-- the bytes of the slice with this number decode soundly, and its coefficients are in the picture;
-- or they are unsound
abbrev pub TookWhole : Parameters → ℕ → List ℕ → PartPicture → PartPicture → Bool → Type 0
TookWhole p index bytes before after true =
    (s : Coefficients) × (slice_coefficients p index bytes ≡ Ok s)
    × (after ≡ with_slice before index s)
TookWhole p index bytes before after false =
    (why : Unsound) × (slice_coefficients p index bytes ≡ Err why)

-- the slice with this number was taken from the front, and its coefficients are in the picture; or
-- it is refused
abbrev pub TookSlice : Parameters → ℕ → List ℕ → List ℕ → PartPicture → PartPicture → Bool → Type 0
TookSlice p index old new before after true =
    (s : Coefficients) × GaveSlice p index old new (Some s) × (after ≡ with_slice before index s)
TookSlice p index old new before after false = GaveSlice p index old new None

-- the first slices of a picture are there, and no other
pub record HasFirst (p : Parameters) (first : List Coefficients) (picture : PartPicture)
    : Type 0 where
  pub parameters : picture.parameters ≡ p
  pub entries : length picture.slices ≡ slice_count p
  pub came : (n : ℕ) (none : Coefficients) → n < length first
      → slice_that_came picture n ≡ Some (slice_index_or first n none)
  pub awaited : (n : ℕ) → length first ≤ n → slice_that_came picture n ≡ None

-- all slices of a picture are there
pub record TookAllSlices (p : Parameters) (bytes : List ℕ) (picture : PartPicture) : Type 0 where
  pub rest : List ℕ
  pub read : slices_from p 0 (slice_count p) bytes ≡ Ok (slices_of picture, rest)
  pub whole : HasAllSlices picture
  pub parameters : picture.parameters ≡ p

abbrev pub TookSlices : Parameters → List ℕ → PartPicture → Bool → Type 0
TookSlices p bytes picture true = TookAllSlices p bytes picture
TookSlices p bytes picture false = slices_from p 0 (slice_count p) bytes ≡ Err tt

-- all slices were read, and the planes are those of their coefficients; or a slice is refused
abbrev pub IsBuilt : Parameters → List ℕ → Option (List Raster) → Type 0
IsBuilt p bytes None = slices_from p 0 (slice_count p) bytes ≡ Err tt
IsBuilt p bytes (Some planes) =
    (read : List Coefficients × List ℕ) × (slices_from p 0 (slice_count p) bytes ≡ Ok read)
    × (planes_in planes ≡ planes_of p read.0)

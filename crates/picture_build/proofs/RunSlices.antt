-- The slices of a run that was decoded together can be filled in.
use Rattle.std.proofs.Common.{◌≡◌, ℕ, ◌+◌, ◌<◌, List, length, map}
use Rattle.std.specs.Prelude.{Ok, slice_index_or, []}
use Rattle.vc_types.specs.SliceCoefficients.{AreSliceCoefficients}
use Rattle.vc_types.specs.Slices.{Coefficients}
use Rattle.vc_types.specs.TransformParameters.{Parameters}
use Rattle.vc_slice.specs.Strips.{decodings, strip_slice, strip_slices}
use Rattle.vc_slice.proofs.RunDecodings.{together-each}
use Rattle.picture_build.proofs.WholeSlices.{whole_slice}

pub together-sound : (p : Parameters) (first : ℕ) (slices : List (List ℕ)) (strip : Coefficients) → map Ok (strip_slices p first (length slices) strip) ≡ decodings p first slices
    → (k : ℕ) → k < length slices → AreSliceCoefficients p (first + k) (strip_slice p first (length slices) strip (first + k))
together-sound p first slices strip e k h =
    whole_slice p (first + k) (strip_slice p first (length slices) strip (first + k)) (slice_index_or slices k []) (together-each p first slices strip e k h)

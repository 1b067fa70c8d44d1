-- What is known of a picture while it is decoded.
use Rattle.std.specs.Prelude.{◌≡◌, ◌≤◌, ℕ, List, length, false}
use Rattle.vc_types.specs.Slices.{Coefficients}
use Rattle.vc_types.specs.Subbands.{slice_count}
use Rattle.vc_types.specs.TransformParameters.{parameters_of}
use Rattle.vc_lowdelay.specs.declared.bands.LowestBands.{LowestBands}
use Rattle.vc_lowdelay.specs.declared.plan.LowPlan.{LowPlan}
use Rattle.vc_lowdelay.specs.Grown.{IsGrownSlice, lowest_in}
use Rattle.vc_lowdelay.specs.LowDelay.{LowParameters, are_large, low_slice_start, low_slices, slice_at}
use Rattle.vc_lowdelay.specs.OfPlan.{low_parameters_of}
use Rattle.vc_lowdelay.specs.Placed.{HasLargeIn}

-- the bytes have all slices, and no coefficient is large
pub record IsDecodable (p : LowParameters) (bytes : List ℕ) : Type 0 where
  pub whole : low_slice_start p.numerator p.denominator (slice_count p.parameters) ≤ length bytes
  pub small : are_large p.parameters (low_slices p bytes) ≡ false

-- the coefficients of slice number n of the bytes, with LL as it is kept
abbrev pub IsSliceAt : LowPlan → List ℕ → ℕ → LowestBands → Coefficients → Type 0
IsSliceAt p bytes n lowest = IsGrownSlice (parameters_of p.plan) n (slice_at (low_parameters_of p) bytes n)
    (lowest_in lowest.y lowest.c1 lowest.c2)

-- a coefficient of slice number n is large, before prediction
abbrev pub IsLargeAt : LowPlan → List ℕ → ℕ → Type 0
IsLargeAt p bytes n = HasLargeIn (parameters_of p.plan) n (slice_at (low_parameters_of p) bytes n)

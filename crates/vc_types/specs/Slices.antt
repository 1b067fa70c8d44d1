-- High-quality slices (ST 2042-1, high-quality slice).
use Rattle.std.specs.Prelude.{ℕ, ◌-◌, ◌*◌, ◌^◌, Bool, nat_lt, nat_le, if◌then◌else◌, List, ◌++◌, length, map}
use Rattle.std.specs.Prelude.{replicate, slice_index_or, ℤ, unsigned_abs, Option, Some, None, Result, Ok, Err}
use Rattle.std.specs.List.{flat_map, list_any, enumerate_from, zip}
use Rattle.vc_types.specs.declared.refusal.Unsound.{Unsound}
use Rattle.vc_types.specs.declared.refusal.Unsound.TheVariants.{IndexRange, CoefficientRange}
use Rattle.vc_types.specs.declared.video.Component.{Component}
use Rattle.vc_types.specs.declared.video.Component.TheVariants.{Y, C1, C2}
use Rattle.vc_types.specs.Bits.{bits_of}
use Rattle.vc_types.specs.Bounded.{bounded_sints}
use Rattle.vc_types.specs.Fields.{Field, ◌>>=◌, give, next, next_items}
use Rattle.vc_types.specs.Quantisation.{dequantised}
use Rattle.vc_types.specs.Subbands.{area, subbands, slice_rectangle, slice_coefficient_count}
use Rattle.vc_types.specs.TransformParameters.{Parameters}

-- ---- the bytes of a slice

-- the quantisation index, and the blocks of the three components
pub record CodedSlice : Type 0 where
  pub index : ℕ
  pub y : List ℕ
  pub c1 : List ℕ
  pub c2 : List ℕ

-- bytes are too short, or they are read
abbrev pub ByteField : Type 0 → Type 0
ByteField X = Field ℕ (Unit {0}) X

-- a length in units of the slice size scaler, and a block of so many bytes
unfoldable pub block : ℕ → ByteField (List ℕ)
block scaler = do
  units ← next tt
  next_items tt (units * scaler)

-- the slice prefix bytes, which are skipped, the quantisation index and the three blocks
unfoldable pub coded_slice : ℕ → ℕ → ByteField CodedSlice
coded_slice prefix scaler = do
  skipped ← next_items tt prefix
  index ← next tt
  y ← block scaler
  c1 ← block scaler
  c2 ← block scaler
  give (record { index = index; y = y; c1 = c1; c2 = c2 })

abbrev pub length_read : {X : Type 0} → List ℕ → Result (X × List ℕ) (Unit {0}) → Option ℕ
length_read bytes (Ok read) = Some (length bytes - length read.1)
length_read bytes (Err short) = None

-- the length of the slice that begins the bytes, if one does
unfoldable pub slice_length : ℕ → ℕ → List ℕ → Option ℕ
slice_length prefix scaler bytes = length_read bytes (coded_slice prefix scaler bytes)

-- ---- its coefficients

-- the coefficients of the three components, each in the slice's order
pub record Coefficients : Type 0 where
  pub y : List ℤ
  pub c1 : List ℤ
  pub c2 : List ℤ

abbrev pub coefficients_of : Coefficients → Component → List ℤ
coefficients_of s Y = s.y
coefficients_of s C1 = s.c1
coefficients_of s C2 = s.c2

-- the quantisation index of each coefficient: the slice's less the subband's matrix value, and at
-- least 0
unfoldable pub quantisers : Parameters → Component → ℕ → ℕ → List ℕ
quantisers p c slice index = flat_map
    (λ b. replicate (area (slice_rectangle p c b.1 slice)) (index - slice_index_or p.matrix b.0 0))
    (enumerate_from 0 (subbands p.depth_ho p.depth))

-- the coefficients that a component's block stands for
unfoldable pub block_coefficients : Parameters → Component → ℕ → ℕ → List ℕ → List ℤ
block_coefficients p c slice index block = map (λ z. dequantised z.0 z.1)
    (zip
    (bounded_sints (slice_coefficient_count p c slice) (bits_of block))
    (quantisers p c slice index))

abbrev pub all_coefficients : Parameters → ℕ → CodedSlice → Coefficients
all_coefficients p slice coded = record {
  y = block_coefficients p Y slice coded.index coded.y;
  c1 = block_coefficients p C1 slice coded.index coded.c1;
  c2 = block_coefficients p C2 slice coded.index coded.c2;
}

-- a coefficient that this project doesn't decode
abbrev pub is_large : ℤ → Bool
is_large z = nat_le (2 ^ 60) (unsigned_abs z)

abbrev pub in_range : Coefficients → Result Coefficients Unsound
in_range s = if list_any is_large (s.y ++ s.c1 ++ s.c2) then Err CoefficientRange else Ok s

-- the coefficients of a slice by its number
unfoldable pub decoded_slice : Parameters → ℕ → CodedSlice → Result Coefficients Unsound
decoded_slice p slice coded =
    if nat_lt 127 coded.index then Err IndexRange else in_range (all_coefficients p slice coded)

abbrev pub decoded_from : Parameters → ℕ → Result (CodedSlice × List ℕ) (Unit {0})
    → Result Coefficients Unsound
decoded_from p slice (Ok read) = decoded_slice p slice read.0
decoded_from p slice (Err short) = Err IndexRange

-- the same from the bytes of one whole slice
unfoldable pub slice_coefficients : Parameters → ℕ → List ℕ → Result Coefficients Unsound
slice_coefficients p slice bytes = decoded_from p slice (coded_slice p.prefix p.scaler bytes)

-- What a slice has of LL, put into its places.
use Rattle.std.specs.Prelude.{◌≡◌, ◌≢◌, ◌+◌, ◌*◌, ◌^◌, ◌<◌, ℕ, ℤ, List, Bool, true, unsigned_abs}
use Rattle.std.specs.List.{list_any}
use Rattle.vc_types.specs.declared.video.Component.{Component}
use Rattle.vc_types.specs.declared.video.Component.TheVariants.{Y, C1, C2}
use Rattle.vc_types.specs.Lifting.{line_of}
use Rattle.vc_types.specs.Quantisation.{dequantised}
use Rattle.vc_types.specs.Rasters.{Lattice}
use Rattle.vc_types.specs.Slices.{is_large}
use Rattle.vc_types.specs.Subbands.{area, place_in}
use Rattle.vc_types.specs.TransformParameters.{Parameters}
use Rattle.vc_golomb.specs.Numbers.{number_at}
use Rattle.vc_lowdelay.specs.Bands.{lowest_rectangle, index_of_place}
use Rattle.vc_lowdelay.specs.LowDelay.{LowSlice, low_coefficients}

-- The first values of a function stand at the slice's places in LL of a component, none of them is
-- large, and no other place was changed.
pub record Places (p : Parameters) (c : Component) (slice : ℕ) (values : ℕ → ℤ) (old new : Lattice)
    : Type 0 where
  pub width : new.width ≡ old.width
  pub height : new.height ≡ old.height
  pub on : (i : ℕ) → i < area (lowest_rectangle p c slice)
      → line_of new.cells (index_of_place old (place_in (lowest_rectangle p c slice) i)) ≡ values i
  pub small : (i : ℕ) → i < area (lowest_rectangle p c slice) → unsigned_abs (values i) < 2 ^ 60
  pub off : (k : ℕ)
      → ((i : ℕ) → i < area (lowest_rectangle p c slice)
      → k ≢ index_of_place old (place_in (lowest_rectangle p c slice) i))
      → line_of new.cells k ≡ line_of old.cells k

-- coefficient i of a component in a slice
abbrev pub coefficient_at : Parameters → ℕ → LowSlice → Component → ℕ → ℤ
coefficient_at p slice s c = line_of (low_coefficients p slice s c)

-- a slice has a large coefficient
abbrev pub HasLargeIn : Parameters → ℕ → LowSlice → Type 0
HasLargeIn p slice s = (c : Component) × (list_any is_large (low_coefficients p slice s c) ≡ true)

-- which number of its block is number k of a component: all are luma's, and of the others C1 has
-- the even ones and C2 the odd ones
abbrev pub place_of_number : Component → ℕ → ℕ
place_of_number Y k = k
place_of_number C1 k = 2 * k
place_of_number C2 k = 2 * k + 1

-- the coefficient that number k of a block stands for, by one quantiser
abbrev pub read_at : List Bool → ℕ → ℕ → ℤ
read_at bits quantiser k = dequantised (number_at bits k) quantiser

-- one of the first numbers, so many, stands for a large coefficient
pub record ReadsLarge (count : ℕ) (bits : List Bool) (quantiser : ℕ) : Type 0 where
  pub place : ℕ
  pub below : place < count
  pub large : is_large (read_at bits quantiser place) ≡ true

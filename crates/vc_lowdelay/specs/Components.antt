-- The coefficients of a component, as they are read of its block one after another.
use Rattle.std.specs.Prelude.{◌≡◌, ◌+◌, ◌^◌, ◌<◌, ℕ, ℤ, Bool, List, length, true, unsigned_abs}
use Rattle.vc_types.specs.declared.video.Component.{Component}
use Rattle.vc_types.specs.Lifting.{line_of}
use Rattle.vc_types.specs.Slices.{is_large}
use Rattle.vc_types.specs.Transforms.{Cells}
use Rattle.vc_golomb.specs.Numbers.{number_at}
use Rattle.vc_slice.specs.declared.bands.SliceBands.{SliceBands}
use Rattle.vc_slice.specs.Bands.{coefficient_count}
use Rattle.vc_lowdelay.specs.OfBands.{grown_in, read_in}
use Rattle.vc_lowdelay.specs.Placed.{place_of_number, read_at}

-- a block that stands so many places of a component behind another one
abbrev pub IsBehind : Component → ℕ → List Bool → List Bool → Type 0
IsBehind c count first block = (k : ℕ)
    → number_at first (place_of_number c (count + k)) ≡ number_at block (place_of_number c k)

-- Behind some coefficients stand so many more, which the next numbers of a block stand for by one
-- quantiser, and none of those is large.
pub record Follow (c : Component) (count : ℕ) (bits : List Bool) (quantiser : ℕ) (old new : List ℤ)
    : Type 0 where
  pub long : length new ≡ length old + count
  pub before : (i : ℕ) → i < length old → line_of new i ≡ line_of old i
  pub each : (k : ℕ) → k < count
      → line_of new (length old + k) ≡ read_at bits quantiser (place_of_number c k)
  pub small : (k : ℕ) → k < count
      → unsigned_abs (read_at bits quantiser (place_of_number c k)) < 2 ^ 60

-- one of them is large
pub record FollowsLarge (c : Component) (count : ℕ) (bits : List Bool) (quantiser : ℕ) : Type 0 where
  pub place : ℕ
  pub below : place < count
  pub large : is_large (read_at bits quantiser (place_of_number c place)) ≡ true

-- the coefficients of a component that a block stands for, before prediction; none is large
pub record AreRead (bands : SliceBands) (c : Component) (bits : List Bool) (coefficients : List ℤ)
    : Type 0 where
  pub count : length coefficients ≡ coefficient_count bands.parts.now c
  pub each : (i : ℕ) → i < coefficient_count bands.parts.now c
      → line_of coefficients i ≡ read_in bands c bits i
  pub small : (i : ℕ) → i < coefficient_count bands.parts.now c
      → unsigned_abs (read_in bands c bits i) < 2 ^ 60

-- the same, where those of LL are as they have grown
pub record AreGrown (bands : SliceBands) (c : Component) (bits : List Bool) (lowest : Cells)
    (coefficients : List ℤ) : Type 0 where
  pub count : length coefficients ≡ coefficient_count bands.parts.now c
  pub each : (i : ℕ) → i < coefficient_count bands.parts.now c
      → line_of coefficients i ≡ grown_in bands c lowest (read_in bands c bits) i
  pub small : (i : ℕ) → i < coefficient_count bands.parts.now c
      → unsigned_abs (read_in bands c bits i) < 2 ^ 60

-- one of the coefficients is large before prediction
pub record ReadsLargeOf (bands : SliceBands) (c : Component) (bits : List Bool) : Type 0 where
  pub place : ℕ
  pub below : place < coefficient_count bands.parts.now c
  pub large : is_large (read_in bands c bits place) ≡ true

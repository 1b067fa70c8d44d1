-- What is written among cells at the places of so many coefficients.
use Rattle.std.specs.Prelude.{◌≡◌, ◌≢◌, ◌<◌, ◌^◌, ℕ, ℤ, List, length, unsigned_abs}
use Rattle.vc_types.specs.Lifting.{line_of}

-- no other cells were changed
pub record ChangesAt (count : ℕ) (place : ℕ → ℕ) (old new : List ℤ) : Type 0 where
  pub length : length new ≡ length old
  pub others : (k : ℕ) → ((i : ℕ) → i < count → k ≢ place i) → line_of new k ≡ line_of old k

-- and these coefficients stand there
pub record FillsAt (count : ℕ) (place : ℕ → ℕ) (coefficients old new : List ℤ) : Type 0 where
  pub only : ChangesAt count place old new
  pub own : (i : ℕ) → i < count → line_of new (place i) ≡ line_of coefficients i

-- these stand there, none of them is wide, and no other cells were changed
pub record PutsAt (count : ℕ) (place : ℕ → ℕ) (coefficients : ℕ → ℤ) (old new : List ℤ) : Type 0 where
  pub on : (i : ℕ) → i < count → line_of new (place i) ≡ coefficients i
  pub narrow : (i : ℕ) → i < count → unsigned_abs (coefficients i) < 2 ^ 29
  pub only : ChangesAt count place old new

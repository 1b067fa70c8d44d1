-- Whether the inverse transform stays in 32 bits: bounds on magnitudes, carried through one pass
-- after another.
use Rattle.std.specs.Prelude.{ℕ, zero, suc, ◌+◌, ◌/◌, ◌^◌, ◌<◌, ◌≤◌, ◌≡◌, nat_lt, if◌then◌else◌, max, List, ℤ}
use Rattle.std.specs.Prelude.{unsigned_abs, Option, Some, None}
use Rattle.std.specs.Option.{option_and_then}
use Rattle.vc_types.specs.Lifting.{line_of}
use Rattle.vc_types.specs.Wavelets.{is_shifted}
use Rattle.vc_lift.specs.Ranges.{narrow_bound}

-- a bound on all cells, from one on all of them before and one on those that were synthesised and
-- are to be shifted
abbrev pub shifted_bound : ℕ → ℕ → ℕ → Option ℕ
shifted_bound wavelet most made =
    if is_shifted wavelet
    then (if nat_lt (made + 1) (2 ^ 31) then Some (max most ((made + 1) / 2)) else None)
    else Some (max most made)

-- after rows are synthesised and shifted
unfoldable pub rows_bound : ℕ → ℕ → Option ℕ
rows_bound wavelet most =
    option_and_then (λ made. shifted_bound wavelet most made) (narrow_bound wavelet most)

-- after levels that each carry a bound on
unfoldable pub bound_over : (ℕ → Option ℕ) → ℕ → ℕ → Option ℕ
bound_over level zero most = Some most
bound_over level (suc n) most = option_and_then level (bound_over level n most)

-- cells whose magnitudes are at most a bound
abbrev pub AreWithin : ℕ → List ℤ → Type 0
AreWithin most cells = (i : ℕ) → unsigned_abs (line_of cells i) ≤ most

-- some bound on cells is carried on to this one
pub record CarriesTo (carry : ℕ → Option ℕ) (cells : List ℤ) (after : ℕ) : Type 0 where
  pub most : ℕ
  pub small : AreWithin most cells
  pub fits : carry most ≡ Some after

-- cells whose magnitudes are at most a bound, which is carried on
pub record HasBound (carry : ℕ → Option ℕ) (cells : List ℤ) : Type 0 where
  pub most : ℕ
  pub after : ℕ
  pub small : AreWithin most cells
  pub fits : carry most ≡ Some after

-- the same of so many cells from a place on
pub record RowHasBound (carry : ℕ → Option ℕ) (cells : List ℤ) (start width : ℕ) : Type 0 where
  pub most : ℕ
  pub after : ℕ
  pub small : (k : ℕ) → k < width → unsigned_abs (line_of cells (start + k)) ≤ most
  pub fits : carry most ≡ Some after

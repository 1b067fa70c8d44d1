-- The numbers whose codes follow one another in a bounded block.
use Rattle.std.specs.Prelude.{◌<◌, ◌≤◌, ◌^◌, ℕ, zero, suc, ℤ, unsigned_abs, Bool, List}
use Rattle.vc_types.specs.Bounded.{bounded_sint, bounded_sints}
use Rattle.vc_types.specs.Lifting.{line_of}

-- number k, where the first is number 0
unfoldable pub number_at : List Bool → ℕ → ℤ
number_at bits zero = (bounded_sint bits).0
number_at bits (suc k) = number_at (bounded_sint bits).1 k

-- among the first numbers of a block, so many, one has a magnitude of 2 ^ 30 or more
pub record HasLarge (count : ℕ) (bits : List Bool) : Type 0 where
  pub place : ℕ
  pub below : place < count
  pub large : 2 ^ 30 ≤ unsigned_abs (line_of (bounded_sints count bits) place)

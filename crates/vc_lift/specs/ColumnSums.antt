-- What a step reckons beside a sample of a column.
use Rattle.std.specs.Prelude.{ℕ, ◌-◌, ◌*◌, ◌^◌, ◌<◌, ◌≡◌, List, ℤ, length}
use Rattle.vc_lift.specs.declared.columns.Columns.{Columns}
use Rattle.vc_lift.specs.CountedSteps.{CountedStep}
use Rattle.vc_lift.specs.Growth.{IsWithin}
use Rattle.vc_lift.specs.Columns.{column_of}

-- the cells are the columns', one of which has sample number n, and its samples that a step may meet
-- are small
pub record CanSum (s : CountedStep) (c : Columns) (n x : ℕ) (cells : List ℤ) : Type 0 where
  pub whole : length cells ≡ 2 * c.half * c.width
  pub at : n < c.half
  pub column : x < c.width
  pub met : IsWithin (column_of c.width cells x) c.half (1 - s.parity) (2 ^ 112)

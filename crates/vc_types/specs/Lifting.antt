-- One lifting step of a line (ST 2042-1, lifting). A line is an even number of samples long, and
-- past its end a step leaves it as it is.
use Rattle.std.specs.Prelude.{ℕ, ◌-◌, ◌/◌, ◌%◌, ◌^◌, Bool, true, false, ◌&&◌, nat_lt}
use Rattle.std.specs.Prelude.{◌==◌, if◌then◌else◌, List, [], ◌∷◌, ℤ, pos, negsuc, ◌+ℤ◌}
use Rattle.std.specs.Prelude.{◌-ℤ◌, ◌*ℤ◌, min, max, slice_index_or}
use Rattle.std.specs.Int.{int_shr}

-- the sample at each place
abbrev pub Line : Type 0
Line = ℕ → ℤ

-- the samples of a list, and 0 past its end
abbrev pub line_of : List ℤ → Line
line_of samples k = slice_index_or samples k (pos 0)

-- A step on the even samples changes each sample 2 * n, one on the odd samples each sample 2 * n +
-- 1.
pub data Parity : Type 0 where
  even : Parity
  odd : Parity

abbrev pub offset_of : Parity → ℕ
offset_of even = 0
offset_of odd = 1

-- the columns of the standard's table: on which samples, whether the change is added, the taps, S
-- and D
pub record LiftingStep : Type 0 where
  pub parity : Parity
  pub adds : Bool
  pub taps : List ℤ
  pub shift : ℕ
  pub first : ℤ

-- the place nearest to z, from low to high
abbrev pub clamped : ℕ → ℕ → ℤ → ℕ
clamped low high (pos place) = max low (min place high)
clamped low high (negsuc place) = low

-- the place of the sample that the tap of number i meets: an odd one in a step on the even samples,
-- an even one in a step on the odd samples
abbrev pub met : Parity → ℕ → ℕ → ℤ → ℕ
met even length n i = clamped 1 (length - 1) (pos 2 *ℤ (pos n +ℤ i) -ℤ pos 1)
met odd length n i = clamped 0 (length - 2) (pos 2 *ℤ (pos n +ℤ i))

-- the sum of taps, the first of which has number i, each times the sample that it meets
unfoldable pub weighted : Parity → ℕ → Line → ℕ → List ℤ → ℤ → ℤ
weighted parity length x n [] i = pos 0
weighted parity length x n (tap ∷ taps) i =
    tap *ℤ x (met parity length n i) +ℤ weighted parity length x n taps (i +ℤ pos 1)

-- half of a power of two, 0 where there is none
abbrev pub half_of : ℕ → ℕ
half_of shift = 2 ^ shift / 2

-- the change of sample number n of the step's parity
unfoldable pub change : LiftingStep → ℕ → Line → ℕ → ℤ
change s length x n =
    int_shr (weighted s.parity length x n s.taps s.first +ℤ pos (half_of s.shift)) s.shift

abbrev pub changed_by : Bool → ℤ → ℤ → ℤ
changed_by true sample change = sample +ℤ change
changed_by false sample change = sample -ℤ change

-- a line after a step
unfoldable pub lifted : LiftingStep → ℕ → Line → Line
lifted s length x k =
    if nat_lt k length && (k % 2 == offset_of s.parity)
    then changed_by s.adds (x k) (change s length x (k / 2))
    else x k

-- Code lengths of the numbers that coefficients are quantised to, without a division.
use Rattle.std.specs.Prelude.{ℕ, ℤ, List, ◌+◌, ◌*◌, ◌/◌, unsigned_abs, nat_le}
use Rattle.std.specs.List.{count_by, sum_by}
use Rattle.vc_slice.specs.Falls.{code_steps}

-- how many coefficients have a magnitude of so many quarters
abbrev pub reaching : ℕ → List ℤ → ℕ
reaching quarters coefficients = count_by (λ z. nat_le quarters (4 * unsigned_abs z)) coefficients

-- the bits beyond one in the code of the number that a coefficient is quantised to by a factor, where only
-- the first digits are counted
abbrev pub steps_of : ℕ → ℕ → ℤ → ℕ
steps_of digits factor z = code_steps digits (4 * unsigned_abs z / factor + 1)

-- those of all
abbrev pub more_bits : ℕ → ℕ → List ℤ → ℕ
more_bits digits factor coefficients = sum_by (steps_of digits factor) coefficients

-- Ratios in lowest terms.
use Rattle.std.specs.Prelude.{ℕ, zero, suc, ◌/◌, ◌%◌}

-- Euclid's algorithm, in at most so many steps
abbrev pub divisor_within : (steps a b : ℕ) → ℕ
divisor_within zero a b = a
divisor_within (suc steps) a zero = a
divisor_within (suc steps) a (suc b) = divisor_within steps (suc b) (a % suc b)

-- the greatest number that divides both
unfoldable pub greatest_divisor : ℕ → ℕ → ℕ
greatest_divisor a b = divisor_within b a b

-- a numerator over a denominator in lowest terms
unfoldable pub lowest_terms : ℕ × ℕ → ℕ × ℕ
lowest_terms r = (r.0 / greatest_divisor r.0 r.1, r.1 / greatest_divisor r.0 r.1)

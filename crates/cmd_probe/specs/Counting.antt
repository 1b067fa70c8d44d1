-- Counts of 64 bits.
use Rattle.std.specs.Prelude.{ℕ, ◌+◌, ◌%◌, ◌^◌}

abbrev pub one_more : ℕ → ℕ
one_more count = (count + 1) % 2 ^ 64

abbrev pub with_bytes : (count bytes : ℕ) → ℕ
with_bytes count bytes = (count + bytes) % 2 ^ 64

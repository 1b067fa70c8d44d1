-- What stands for a division.
use Rattle.std.specs.Prelude.{ℕ, ◌≡◌, ◌+◌, ◌*◌, ◌/◌, ◌^◌, ◌<◌, ◌≤◌}

-- 2 ^ 32 divided by a number, to within 1
abbrev pub IsReciprocal : ℕ → ℕ → Type 0
IsReciprocal divisor reciprocal =
    (reciprocal * divisor ≤ 2 ^ 32) × (2 ^ 32 ≤ (reciprocal + 1) * divisor)

-- a product and a shift are each magnitude below 2 ^ 14, in quarters, divided by a number
abbrev pub IsNarrowReciprocal : ℕ → ℕ → ℕ → Type 0
IsNarrowReciprocal divisor times shift = (magnitude : ℕ) → magnitude < 2 ^ 14
    → magnitude * times / 2 ^ shift ≡ 4 * magnitude / divisor

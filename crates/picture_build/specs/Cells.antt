-- What the cells of a plane hold.
use Rattle.std.specs.Prelude.{◌≡◌, ◌≤◌, ◌^◌, ℕ, ℤ, pos, ◌+ℤ◌, ◌*ℤ◌, Bool, true, if◌then◌else◌}
use Rattle.std.specs.Prelude.{List, length, map}
use Rattle.std.specs.List.{zip}

-- a number in two parts: a high one that counts 2 ^ 30, and a low one
abbrev pub whole_number : ℤ → ℤ → ℤ
whole_number high low = high *ℤ pos (2 ^ 30) +ℤ low

-- cells in two parts each, or in their low parts alone
abbrev pub cells_in : Bool → List ℤ → List ℤ → List ℤ
cells_in wide high low =
    if wide then map (λ parts. whole_number parts.0 parts.1) (zip high low) else low

-- there is room for a high part of each cell, and each has one where they count
pub record AreParts (wide : Bool) (spare : ℕ) (high low : List ℤ) : Type 0 where
  pub room : length low ≤ spare
  pub even : wide ≡ true → length high ≡ length low

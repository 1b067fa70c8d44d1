-- The numbers that are read of a block, at the front of a list, and what they stand for.
use Rattle.std.specs.Prelude.{◌≡◌, ◌<◌, ◌≤◌, ℕ, ℤ, List, unsigned_abs}
use Rattle.vc_types.specs.Bits.{bits_of}
use Rattle.vc_types.specs.Bounded.{bounded_sints}
use Rattle.vc_types.specs.Lifting.{line_of}
use Rattle.vc_types.specs.Quantisation.{dequantised}
use Rattle.vc_slice.specs.declared.rect_numbers.QuantisedNumbers.{QuantisedNumbers}

-- the first so many are those of the block
abbrev pub AreBlockNumbers : ℕ → List ℕ → List ℤ → Type 0
AreBlockNumbers count block numbers =
    (i : ℕ) → i < count → line_of numbers i ≡ line_of (bounded_sints count (bits_of block)) i

-- their magnitudes are at most this
abbrev pub AreUpTo : ℕ → ℕ → List ℤ → Type 0
AreUpTo most count numbers =
    (i : ℕ) → i < count → unsigned_abs (line_of numbers i) ≤ most

-- the coefficient that a number stands for
abbrev pub coefficient_of : QuantisedNumbers → ℕ → ℤ
coefficient_of from i = dequantised (line_of from.numbers.now i) from.quantiser.now.index

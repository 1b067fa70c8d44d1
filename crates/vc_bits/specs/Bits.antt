-- What readers and writers of bits show.
use Rattle.std.specs.Prelude.{ℕ, zero, suc, ◌-◌, ◌%◌, Bool, List, [], ◌∷◌, ◌==◌}
use Rattle.std.specs.Int.{bit_at}

-- the bits that are left, and how many were read
pub record BitsLeft : Type 0 where
  pub left : List Bool
  pub place : ℕ

-- how many bits there are from a place to the next edge of a byte
abbrev pub to_edge : ℕ → ℕ
to_edge place = (8 - place % 8) % 8

-- the last bits of a number, the most significant first
unfoldable pub word_bits : ℕ → ℕ → List Bool
word_bits zero word = []
word_bits (suc count) word = (bit_at word count == 1) ∷ word_bits count word

-- The numbers whose codes stand in a table.
use Rattle.std.specs.Prelude.{◌≡◌, ℕ, ◌/◌, ◌%◌, ◌^◌, ◌<◌, ◌≤◌, ℤ, pos, negsuc, ◌-ℤ◌, ◌≤ℤ◌, ◌<ℤ◌}
use Rattle.vc_types.specs.Codes.{sint_bits}
use Rattle.vc_bits.specs.Bits.{word_bits}

-- a number from -256 to 255
abbrev pub IsShort : ℤ → Type 0
IsShort v = (negsuc 255 ≤ℤ v) × (v <ℤ pos 256)

-- the number whose code stands in a place of the table
abbrev pub number_in : ℕ → ℤ
number_in place = pos place -ℤ pos 256

-- the last five bits of an entry say how many bits the code of a number has; they stand in front
pub record HasCode (v : ℤ) (entry : ℕ) : Type 0 where
  pub value : word_bits (entry % 32) (entry / 32) ≡ sint_bits v
  pub few : entry % 32 ≤ 18
  pub range : entry / 32 < 2 ^ (entry % 32)

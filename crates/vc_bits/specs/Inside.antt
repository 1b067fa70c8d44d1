-- How the bits of bytes are kept.
use Rattle.std.specs.Prelude.{ℕ, ◌-◌, Bool, List, drop}
use Rattle.vc_types.specs.Bits.{byte_bits}

-- the last bits of a byte
abbrev pub low_bits : ℕ → ℕ → List Bool
low_bits count byte = drop (8 - count) (byte_bits byte)

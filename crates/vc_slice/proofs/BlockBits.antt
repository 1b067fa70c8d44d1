-- A block of whole bytes has their bits.
use Rattle.std.proofs.Common.{◌≡◌, ℕ, ◌*◌, List, length, take, arith}
use Rattle.std.proofs.lemmas.List.{take_all}
use Rattle.vc_types.specs.Bits.{bits_of}
use Rattle.vc_types.proofs.Bits.{length-bits_of}

pub take_whole : (bytes : List ℕ) (n : ℕ) → n ≡ length bytes → take (8 * n) (bits_of bytes) ≡ bits_of bytes
take_whole bytes n e = take_all (8 * n) (bits_of bytes) (let count = length-bits_of bytes in omega (arith, count))

pub ruleset blocks = (take_whole, length-bits_of)

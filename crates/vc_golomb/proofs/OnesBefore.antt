-- A code behind ones, in one word.
use Rattle.std.proofs.Common.{◌≡◌, ℕ, ◌+◌, ◌-◌, ◌*◌, ◌%◌, ◌^◌, ◌<◌, ◌≤◌, true, ◌++◌, replicate, arith}
use Rattle.std.proofs.lemmas.Nat.{one_shl, pow_pos}
use Rattle.vc_bits.specs.Bits.{word_bits}
use Rattle.vc_bits.proofs.Waiting.{joined_bits, joined_fits, moved_up}
use Rattle.vc_bits.proofs.Words.{only_ones}

module _ (ones count number : ℕ) (few : ones ≤ 14) (short : count ≤ 18) (small : number < 2 ^ count) where
  some : 0 < 2 ^ ones
  some = pow_pos ones

  -- as the code computes it
  pub moved : (1 * 2 ^ ones % 2 ^ 64 - 1) * 2 ^ count % 2 ^ 64 ≡ (2 ^ ones - 1) * 2 ^ count
  moved = grind (arith, one_shl, moved_up, some)

  pub ones_bits : word_bits (ones + count) ((1 * 2 ^ ones % 2 ^ 64 - 1) * 2 ^ count % 2 ^ 64 + number) ≡ replicate ones true ++ word_bits count number
  ones_bits = grind (arith, moved, joined_bits, only_ones)

  pub ones_fit : (1 * 2 ^ ones % 2 ^ 64 - 1) * 2 ^ count % 2 ^ 64 + number < 2 ^ (ones + count)
  ones_fit = rw moved (joined_fits ones (2 ^ ones - 1) count number (omega (arith, some)) small)

-- Output samples: how a number is clipped.
use Rattle.std.proofs.Common.{◌≡◌, ℕ, ◌-◌, ◌^◌, ◌<◌, ℤ, pos, negsuc, ◌+ℤ◌, ◌-ℤ◌, neg_ℤ, unsigned_abs, arith}
use Rattle.std.specs.Int.{int_max, int_min}
use Rattle.std.proofs.lemmas.Int.{ints, clamps}
use Rattle.std.proofs.Math.Pow.{pow_pos}
use Rattle.vc_types.specs.Planes.{clipped, output_sample}

clipped-is : (half : ℕ) (z low high : ℤ) → 0 < half → low ≡ neg_ℤ (pos half) → high ≡ pos half -ℤ pos 1
    → int_max low (int_min z high) ≡ clipped half z
clipped-is half (pos n) low high some l h = omega (arith, ints, clamps)
clipped-is half (negsuc n) low high some l h = omega (arith, ints, clamps)

-- the number that code clips
pub output_sample-is : (depth : ℕ) (z given r half low high : ℤ) → half ≡ pos (2 ^ (depth - 1)) → given ≡ z
    → low ≡ neg_ℤ half → high ≡ half -ℤ pos 1 → r ≡ int_max low (int_min given high)
    → unsigned_abs (r +ℤ half) ≡ output_sample depth z
unfolding output_sample
output_sample-is depth z given r half low high is own l h clip = grind (arith, clipped-is, pow_pos)

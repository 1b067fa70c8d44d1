-- Large numbers stand for large coefficients.
use Rattle.std.proofs.Common.{◌≡◌, ℕ, ◌^◌, ◌<◌, ◌≤◌, ◌-◌, ℤ, unsigned_abs, true, arith}
use Rattle.std.proofs.lemmas.Bool.Decides.{nat_tests}
use Rattle.std.specs.Prelude.{nat_le}
use Rattle.vc_types.specs.Quantisation.{dequantised}
use Rattle.vc_types.specs.Slices.{is_large}
use Rattle.vc_types.proofs.Quantisers.{dequantised_not_smaller}

above : (n : ℕ) → 2 ^ 60 ≤ n → nat_le (2 ^ 60) n ≡ true
above n h = grind (arith, nat_tests)

pub large_stays : (z : ℤ) (index : ℕ) → 2 ^ 60 - 1 < unsigned_abs z → is_large (dequantised z index) ≡ true
large_stays z index h = let same = dequantised_not_smaller z index in above (unsigned_abs (dequantised z index)) (omega (arith, same))

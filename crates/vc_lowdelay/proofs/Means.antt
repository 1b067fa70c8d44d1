-- The mean of three values isn't larger than the largest.
use Rattle.std.proofs.Common.{ℕ, ◌*◌, ◌<◌, ◌≤◌, ℤ, pos, negsuc, ◌+ℤ◌, unsigned_abs, arith}
use Rattle.std.specs.Int.{int_div_euclid}
use Rattle.std.proofs.lemmas.Int.{ints}
use Rattle.vc_lowdelay.specs.LowDelay.{mean_of}

third : (z : ℤ) (m : ℕ) → unsigned_abs z ≤ 3 * m → unsigned_abs (int_div_euclid z (pos 3)) ≤ m
third (pos n) m h = omega arith
third (negsuc n) m h = omega arith

sum_small : (a b d : ℤ) (m : ℕ) → unsigned_abs a < m → unsigned_abs b < m → unsigned_abs d < m
    → unsigned_abs (((a +ℤ b) +ℤ d) +ℤ pos 1) ≤ 3 * m
sum_small a b d m ha hb hd = grind (arith, ints)

pub mean_small : (a b d : ℤ) (m : ℕ) → unsigned_abs a < m → unsigned_abs b < m → unsigned_abs d < m
    → unsigned_abs (mean_of a b d) ≤ m
mean_small a b d m ha hb hd = third (((a +ℤ b) +ℤ d) +ℤ pos 1) m (sum_small a b d m ha hb hd)

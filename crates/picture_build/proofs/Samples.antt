-- Output samples: how large they are.
use Rattle.std.proofs.Common.{◌≡◌, ℕ, ◌+◌, ◌-◌, ◌*◌, ◌^◌, ◌<◌, ◌≤◌, ℤ, pos, negsuc, ◌+ℤ◌, unsigned_abs, arith, ap, sym, ◌∙◌}
use Rattle.std.proofs.lemmas.Int.{ints}
use Rattle.std.proofs.lemmas.Nat.{pow-add}
use Rattle.std.proofs.Math.Pow.{pow_pos}
use Rattle.vc_types.specs.Planes.{clipped, output_sample}

clipped-from : (half : ℕ) (z : ℤ) → 0 < half → unsigned_abs (clipped half z +ℤ pos half) < 2 * half
clipped-from half (pos n) some = omega (arith, ints)
clipped-from half (negsuc n) some = omega (arith, ints)

-- a sample is below 2 ^ depth
pub output_sample-below : (depth : ℕ) (z : ℤ) → 1 ≤ depth → output_sample depth z < 2 ^ depth
unfolding output_sample
output_sample-below depth z some =
    let more : 1 + (depth - 1) ≡ depth = omega arith in
    let all : 2 ^ depth ≡ 2 * 2 ^ (depth - 1) = ap (λ n. 2 ^ n) (sym more) ∙ pow-add 2 1 (depth - 1) in
    rw all (clipped-from (2 ^ (depth - 1)) z (pow_pos (depth - 1)))

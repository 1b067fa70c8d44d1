-- Sides that levels halve exactly, and shares of a side.
use Rattle.std.proofs.Common.{◌≡◌, ℕ, suc, ◌+◌, ◌*◌, ◌/◌, ◌^◌, ◌≤◌, arith, ap, sym, ◌∙◌}
use Rattle.std.proofs.Math.Nat.{div-le_of_le-mul, mul-div_cancel, mul-le-mul_left}
use Rattle.std.proofs.Math.Pow.{pow_pos}
use Rattle.std.proofs.lemmas.Nat.{pow-add}
use Rattle.vc_types.specs.Subbands.{share_start}
use Rattle.vc_wave.proofs.Turns.{twice_power}

pub twice_once : (w l a : ℕ) → w * 2 ^ suc l ≤ a → 2 * w ≤ a
twice_once w l a h =
    (let more : 2 * w * 1 ≤ 2 * w * 2 ^ l = mul-le-mul_left (2 * w) (pow_pos l) in
    omega (arith, more, twice_power w l))

pub share_upto : (length n k : ℕ) → k ≤ n → share_start length n k ≤ length
share_upto length n k h =
    (let all : length * k ≤ length * n = mul-le-mul_left length h in
    div-le_of_le-mul n {m = length * k} {n = length} (omega (arith, all)))

-- a side of a level's subbands, where levels halve it exactly
pub exact_side : (side depth l above : ℕ) → side / 2 ^ depth * 2 ^ depth ≡ side → above + l ≡ depth
    → side / 2 ^ above ≡ side / 2 ^ depth * 2 ^ l
exact_side side depth l above whole sum =
    let low = side / 2 ^ depth in
    let parts : side ≡ low * 2 ^ l * 2 ^ above = sym whole ∙ ap (λ n. low * 2 ^ n) (sym sum)
    ∙ ap (λ q. low * q) (pow-add 2 above l) ∙ omega arith in
    ap (λ n. n / 2 ^ above) parts ∙ mul-div_cancel (low * 2 ^ l) (pow_pos above)

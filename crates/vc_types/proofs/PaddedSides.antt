-- How far a side grows when it is padded.
use Rattle.std.proofs.Common.{◌≡◌, ℕ, ◌+◌, ◌-◌, ◌*◌, ◌/◌, ◌^◌, ◌<◌, ◌≤◌, arith, sym, ◌∙◌, ap}
use Rattle.std.proofs.lemmas.Nat.{pow-add}
use Rattle.std.proofs.Math.Nat.{div-mul-le_self, lt-div-mul-add, lt_of_mul-lt-mul_right, mul-le-mul_right}
use Rattle.std.proofs.Math.Pow.{pow_pos}
use Rattle.vc_types.specs.Limits.{padded}

pub padded-above : (side depth : ℕ) → 1 ≤ side → side ≤ padded side depth
padded-above side depth some =
    let unit = pow_pos depth in
    let high = lt-div-mul-add {a = side + 2 ^ depth - 1} unit in
    omega (arith, high)

upto : (side unit times most : ℕ) → 0 < unit → times * unit ≡ most → side ≤ most → (side + unit - 1) / unit * unit ≤ most
upto side unit times most some is h =
    let low = div-mul-le_self (side + unit - 1) unit in
    let next : (side + unit - 1) / unit * unit < (times + 1) * unit = omega (arith, low) in
    let quotient = lt_of_mul-lt-mul_right unit next in
    let few : (side + unit - 1) / unit ≤ times = omega (arith, quotient) in
    let product = mul-le-mul_right unit few in
    omega (arith, product)

pub padded-upto : (side depth : ℕ) → depth ≤ 5 → side ≤ 8192 → padded side depth ≤ 8192
padded-upto side depth h few =
    let whole : 13 - depth + depth ≡ 13 = omega arith in
    upto side (2 ^ depth) (2 ^ (13 - depth)) 8192 (pow_pos depth) (sym (pow-add 2 (13 - depth) depth) ∙ ap (λ n. 2 ^ n) whole) few

-- with the numeral that code makes by a shift
pub shifted-above : (side depth unit : ℕ) → unit ≡ 2 ^ depth → 1 ≤ side → 1 ≤ (side + unit - 1) / unit * unit
shifted-above side depth unit e some = rw e (omega (arith, padded-above side depth some))

pub shifted-upto : (side depth unit : ℕ) → unit ≡ 2 ^ depth → side ≤ 8192 → depth ≤ 5 → (side + unit - 1) / unit * unit ≤ 8192
shifted-upto side depth unit e few h = rw e (omega (arith, padded-upto side depth h few))

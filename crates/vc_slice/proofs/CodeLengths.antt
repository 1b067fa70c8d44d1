-- How long the code of a number is.
use Rattle.std.proofs.Common.{◌≡◌, ℕ, zero, suc, ◌+◌, ◌*◌, ◌/◌, ◌%◌, ◌^◌, ◌<◌, ◌≤◌, ℤ, unsigned_abs, eqb, [], length, sym, ap, ◌∙◌, arith, append-nil, length-append}
use Rattle.std.proofs.Math.Nat.{pow-suc}
use Rattle.vc_types.specs.Bits.{digit_of}
use Rattle.vc_types.specs.Codes.{spread_digits, uint_bits, sign_bits, sint_bits}
use Rattle.vc_types.proofs.Codes.{spread_digits-push, none_before}
use Rattle.vc_types.proofs.Digits.{digit_back}

-- the digits after the first, each behind a 0
length-digits : (place n : ℕ) → 2 ^ place ≤ n → n < 2 * 2 ^ place → length (spread_digits n) ≡ 2 * place
length-digits zero n low high =
    let one : n ≡ 1 = omega arith in
    rw one (ap length (sym (append-nil (spread_digits 1)) ∙ none_before []))
length-digits (suc place) n low high =
    let power = pow-suc 2 place in
    let bit = eqb (n % 2) 1 in
    let parts : n ≡ 2 * (n / 2) + digit_of bit = omega (arith, digit_back (n % 2) (omega arith)) in
    let half = length-digits place (n / 2) (omega (arith, power)) (omega (arith, power)) in
    let some : 0 < n / 2 = omega (arith, power) in
    let more = ap (λ (k : ℕ). length (spread_digits k)) parts ∙ ap length (spread_digits-push (n / 2) bit some) ∙ length-append (spread_digits (n / 2)) _ in
    omega (arith, more, half)

length-sign : (v : ℤ) → 0 < unsigned_abs v → length (sign_bits v) ≡ 1
length-sign v some = grind arith

-- a number that isn't 0: by the place of the first digit of its magnitude and one
pub length-code : (v : ℤ) (place : ℕ) → 0 < unsigned_abs v → 2 ^ place ≤ unsigned_abs v + 1 → unsigned_abs v + 1 < 2 * 2 ^ place → length (sint_bits v) ≡ 2 * place + 2
unfolding sint_bits uint_bits
length-code v place some low high = grind (arith, length-append, length-digits, length-sign)

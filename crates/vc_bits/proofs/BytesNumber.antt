-- The number of some bits, from the bytes that hold them.
use Rattle.std.proofs.Common.{◌≡◌, ℕ, ◌+◌, ◌-◌, ◌*◌, ◌/◌, ◌%◌, ◌^◌, ◌<◌, ◌≤◌, Bool, List, [], length, get_or, take, drop, sym, ap, ◌∙◌, arith, add-one}
use Rattle.std.proofs.Math.Seq.{take-suc}
use Rattle.std.proofs.lemmas.Nat.{one_shl, pow-add}
use Rattle.std.proofs.lemmas.List.{drop-take, take-take, length-take-le}
use Rattle.vc_types.specs.Bits.{bits_of, number_of}
use Rattle.vc_types.proofs.Bits.{bits_of-nil, bits_of-push, length-byte_bits, length-bits_of, take-bits_of}
use Rattle.vc_types.proofs.Digits.{number_of-append, number_of-byte, number_of-middle}

-- no byte
pub number_none : 0 ≡ number_of (bits_of [])
number_none = ap number_of (sym bits_of-nil)

-- one more byte
pub number_more : (bytes : List ℕ) (place : ℕ) → place < length bytes → get_or bytes place 0 < 256 → number_of (bits_of (take place bytes)) * 256 + get_or bytes place 0 ≡ number_of (bits_of (take (place + 1) bytes))
number_more bytes place within small =
    grind (arith, add-one, take-suc {A = ℕ}, bits_of-push, number_of-append, length-byte_bits, number_of-byte)

pub fits_more : (number byte place : ℕ) → number < 2 ^ (8 * place) → byte < 256 → number * 256 + byte < 2 ^ (8 * (place + 1))
fits_more number byte place fits small =
    let power : 2 ^ (8 * (place + 1)) ≡ 2 ^ (8 * place) * 256 = ap (λ (n : ℕ). 2 ^ n) (let e : 8 * (place + 1) ≡ 8 * place + 8 = omega arith in e) ∙ pow-add 2 (8 * place) 8 in
    omega (arith, power)

-- the bits between the used ones and those behind
pub number_between : (bytes : List ℕ) (used n count number : ℕ) → used + n ≤ 8 * count → count ≤ length bytes → n ≤ 32 → number ≡ number_of (bits_of (take count bytes))
    → number / 2 ^ (8 * count - (used + n)) % (1 * 2 ^ n % 2 ^ 64) ≡ number_of (take n (drop used (bits_of bytes)))
number_between bytes used n count number within have small is =
    let bits = bits_of (take count bytes) in
    let long : length bits ≡ 8 * count = omega (arith, length-bits_of (take count bytes), length-take-le count bytes have) in
    let one : 1 * 2 ^ n % 2 ^ 64 ≡ 2 ^ n = one_shl n 64 (omega arith) in
    let rest : used + (8 * count - used) ≡ 8 * count = omega arith in
    let same : take n (drop used bits) ≡ take n (drop used (bits_of bytes)) =
    ap (λ (front : List Bool). take n (drop used front)) (sym (take-bits_of count bytes) ∙ ap (λ (m : ℕ). take m (bits_of bytes)) (sym rest)) ∙ ap (take n) (drop-take used (8 * count - used) (bits_of bytes)) ∙ take-take n (8 * count - used) (drop used (bits_of bytes)) (omega arith) in
    ap (λ (m : ℕ). m / 2 ^ (8 * count - (used + n)) % (1 * 2 ^ n % 2 ^ 64)) is ∙ ap (λ (m : ℕ). number_of bits / 2 ^ (8 * count - (used + n)) % m) one
    ∙ ap (λ (m : ℕ). number_of bits / 2 ^ (m - (used + n)) % 2 ^ n) (sym long) ∙ number_of-middle used n bits (omega (arith, long)) ∙ ap number_of same

-- A code is read by the digits that a byte's bits say.
use Rattle.std.proofs.Common.{◌≡◌, ℕ, suc, ◌+◌, ◌-◌, ◌*◌, ◌/◌, ◌^◌, ◌<◌, ◌≤◌, Bool, true, false, ℤ, pos, eqb, ltb, List, [], ◌∷◌, length, drop, fold, Some, None, refl, sym, ap, subst, ◌∙◌, arith, length-drop, add-zero, inl, inr}
use Rattle.std.proofs.lemmas.Bool.{cases_lt, lt-ltb, le-ltb}
use Rattle.std.specs.Int.{bit_at}
use mir.Val.{bool_byte}
use Rattle.std.proofs.Math.Nat.{pow-suc}
use Rattle.std.proofs.lemmas.Nat.{mul-le, pow_pos}
use Rattle.std.proofs.lemmas.List.{drop-drop}
use Rattle.vc_types.specs.Bits.{byte_bits, digit_of, number_of}
use Rattle.vc_types.specs.Codes.{uint_after}
use Rattle.vc_types.specs.Bounded.{bounded, BeginsWith, bounded_uint_after, bounded_uint, bounded_sint, signed}
use Rattle.vc_types.proofs.Bits.{length-byte_bits, bit_of_byte}
use Rattle.vc_types.proofs.BoundedCodes.{bounded-drop, front_begins}
use Rattle.vc_types.proofs.Digits.{more_digits}
use Rattle.vc_golomb.specs.Table.{pairs_of, IsLook}
use Rattle.vc_golomb.proofs.SignedReading.{code_ends, code_goes_on, sint-none, sint-some}

-- what stands behind the first two bits
two_behind : (digit : Bool) (list bits : List Bool) → BeginsWith bits (pairs_of (digit ∷ list)) → BeginsWith (drop 1 (drop 1 bits)) (pairs_of list)
two_behind digit list bits begin place lt =
    let further : 2 + place ≡ suc (suc place) = omega arith in
    ap (λ (xs : List Bool). bounded xs place) (drop-drop 1 1 bits) ∙ bounded-drop 2 place bits ∙ ap (bounded bits) further ∙ begin (suc (suc place)) (omega arith)

-- ---- in a block

after_pairs : (list : List Bool) (number : ℕ) (bits : List Bool) → BeginsWith bits (pairs_of list)
    → bounded_uint_after number bits ≡ bounded_uint_after (fold (λ number bit. 2 * number + digit_of bit) number list) (drop (2 * length list) bits)
after_pairs [] number bits begin = refl
after_pairs (digit ∷ list) number bits begin =
    let first : bounded bits 0 ≡ false = begin 0 (omega arith) in
    let second : bounded (drop 1 bits) 0 ≡ digit = bounded-drop 1 0 bits ∙ begin 1 (omega arith) in
    let twice : 2 + 2 * length list ≡ 2 * length (digit ∷ list) = omega arith in
    let next = 2 * number + digit_of digit in
    sym (code_goes_on number bits first) ∙ ap (λ (d : Bool). bounded_uint_after (2 * number + digit_of d) (drop 1 (drop 1 bits))) second
    ∙ after_pairs list next (drop 1 (drop 1 bits)) (two_behind digit list bits begin)
    ∙ ap (bounded_uint_after (fold (λ number bit. 2 * number + digit_of bit) next list)) (ap (drop (2 * length list)) (drop-drop 1 1 bits) ∙ drop-drop (2 * length list) 2 bits ∙ ap (λ (n : ℕ). drop n bits) twice)

-- ---- in all bits

uint_pairs : (list : List Bool) (number : ℕ) (bits : List Bool) → BeginsWith bits (pairs_of list) → 2 * length list ≤ length bits
    → uint_after number bits ≡ uint_after (fold (λ number bit. 2 * number + digit_of bit) number list) (drop (2 * length list) bits)
unfolding uint_after
uint_pairs [] number bits begin enough = refl
uint_pairs (digit ∷ list) number [] begin enough = absurd (omega arith)
uint_pairs (digit ∷ list) number (bit ∷ []) begin enough = absurd (omega arith)
uint_pairs (digit ∷ list) number (true ∷ bit ∷ bits) begin enough = let never : true ≡ false = begin 0 (omega arith) in absurd cc
uint_pairs (digit ∷ list) number (false ∷ bit ∷ bits) begin enough =
    let second : bit ≡ digit = begin 1 (omega arith) in
    let twice : suc (suc (2 * length list)) ≡ 2 * length (digit ∷ list) = omega arith in
    uint_pairs list (2 * number + digit_of bit) bits (λ place lt. begin (suc (suc place)) (omega arith)) (omega arith)
    ∙ ap (λ (d : Bool). uint_after (fold (λ number bit. 2 * number + digit_of bit) (2 * number + digit_of d) list) (drop (2 * length list) bits)) second
    ∙ ap (λ (n : ℕ). uint_after (fold (λ number bit. 2 * number + digit_of bit) (2 * number + digit_of digit) list) (drop n (false ∷ bit ∷ bits))) twice

uint_none : (list : List Bool) (number : ℕ) (bits : List Bool) → BeginsWith bits (pairs_of list) → length bits ≤ 2 * length list → uint_after number bits ≡ None
unfolding uint_after
uint_none list number [] begin few = refl
uint_none [] number (bit ∷ bits) begin few = absurd (omega arith)
uint_none (digit ∷ list) number (true ∷ bits) begin few = let never : true ≡ false = begin 0 (omega arith) in absurd cc
uint_none (digit ∷ list) number (false ∷ []) begin few = refl
uint_none (digit ∷ list) number (false ∷ bit ∷ bits) begin few = uint_none list (2 * number + digit_of bit) bits (λ place lt. begin (suc (suc place)) (omega arith)) (omega arith)

uint_ends : (number : ℕ) (bits : List Bool) → bounded bits 0 ≡ true → 0 < length bits → uint_after number bits ≡ Some (number - 1, drop 1 bits)
unfolding uint_after
uint_ends number [] one some = absurd (omega arith)
uint_ends number (true ∷ bits) one some = refl
uint_ends number (false ∷ bits) one some = absurd cc

-- ---- by what a byte's bits say

abbrev next_number : ℕ → ℕ → ℕ → ℕ
next_number number taken digits = number * 2 ^ (taken / 2) + digits

digits_behind : (byte taken digits number : ℕ) (look : IsLook byte taken digits) → fold (λ number bit. 2 * number + digit_of bit) number look.list ≡ next_number number taken digits
digits_behind byte taken digits number look =
    more_digits number look.list ∙ ap (λ (n : ℕ). number * 2 ^ n + number_of look.list) look.count ∙ ap (λ (n : ℕ). number * 2 ^ (taken / 2) + n) look.number

begins_pairs : (byte taken digits : ℕ) (bits : List Bool) (look : IsLook byte taken digits) → BeginsWith bits (byte_bits byte) → BeginsWith bits (pairs_of look.list)
begins_pairs byte taken digits bits look begin = front_begins bits (pairs_of look.list) look.rest (subst (BeginsWith bits) look.front begin)

-- the 1 behind the digits
one_behind : (byte taken digits : ℕ) (bits : List Bool) (look : IsLook byte taken digits) → BeginsWith bits (byte_bits byte) → taken < 8 → bounded (drop (2 * length look.list) bits) 0 ≡ true
one_behind byte taken digits bits look begin fewer =
    let ends = look.ends fewer in
    let within : 2 * length look.list < length (byte_bits byte) = omega (arith, length-byte_bits byte, ends.0) in
    bounded-drop (2 * length look.list) 0 bits ∙ ap (bounded bits) (add-zero (2 * length look.list)) ∙ begin (2 * length look.list) within ∙ ends.1

behind_one : (byte taken digits : ℕ) (bits : List Bool) (look : IsLook byte taken digits) → taken < 8 → drop 1 (drop (2 * length look.list) bits) ≡ drop taken bits
behind_one byte taken digits bits look fewer = drop-drop 1 (2 * length look.list) bits ∙ ap (λ (n : ℕ). drop n bits) (sym (look.ends fewer).0)

-- the code goes on behind the byte
pub block_goes : (byte taken digits number : ℕ) (bits : List Bool) → IsLook byte taken digits → BeginsWith bits (byte_bits byte) → 8 ≤ taken
    → bounded_uint_after (number * 2 ^ (taken / 2) + digits) (drop taken bits) ≡ bounded_uint_after number bits
block_goes byte taken digits number bits look begin all =
    sym (after_pairs look.list number bits (begins_pairs byte taken digits bits look begin)
    ∙ ap (λ (n : ℕ). bounded_uint_after n (drop (2 * length look.list) bits)) (digits_behind byte taken digits number look) ∙ ap (λ (n : ℕ). bounded_uint_after (next_number number taken digits) (drop n bits)) (sym (look.whole all)))

-- so there are bits left
pub block_falls : (byte taken digits : ℕ) (bits : List Bool) → IsLook byte taken digits → BeginsWith bits (byte_bits byte) → 8 ≤ taken → length (drop taken bits) < length bits
block_falls byte taken digits bits look begin all =
    let some : 0 < length bits = not_empty look.list bits (begins_pairs byte taken digits bits look begin) (omega (arith, look.whole all)) in
    omega (arith, length-drop taken bits)
  where
    not_empty : (list bits : List Bool) → BeginsWith bits (pairs_of list) → 0 < length list → 0 < length bits
    not_empty [] bits begin some = absurd (omega arith)
    not_empty (digit ∷ list) [] begin some = let never : true ≡ false = begin 0 (omega arith) in absurd cc
    not_empty (digit ∷ list) (bit ∷ bits) begin some = omega arith

-- the code ends in the byte
pub block_ends : (byte taken digits number : ℕ) (bits : List Bool) → IsLook byte taken digits → BeginsWith bits (byte_bits byte) → taken < 8
    → bounded_uint_after number bits ≡ (number * 2 ^ (taken / 2) + digits - 1, drop taken bits)
block_ends byte taken digits number bits look begin fewer =
    let next = next_number number taken digits in
    after_pairs look.list number bits (begins_pairs byte taken digits bits look begin) ∙ ap (λ (n : ℕ). bounded_uint_after n (drop (2 * length look.list) bits)) (digits_behind byte taken digits number look)
    ∙ code_ends next (drop (2 * length look.list) bits) (one_behind byte taken digits bits look begin fewer)
    ∙ ap (λ (rest : List Bool). let x : ℕ × List Bool = (next - 1, rest) in x) (behind_one byte taken digits bits look fewer)

pub uint_goes : (byte taken digits number : ℕ) (bits : List Bool) → IsLook byte taken digits → BeginsWith bits (byte_bits byte) → 8 ≤ taken → taken ≤ length bits
    → uint_after (number * 2 ^ (taken / 2) + digits) (drop taken bits) ≡ uint_after number bits
uint_goes byte taken digits number bits look begin all enough =
    sym (uint_pairs look.list number bits (begins_pairs byte taken digits bits look begin) (omega (arith, look.whole all))
    ∙ ap (λ (n : ℕ). uint_after n (drop (2 * length look.list) bits)) (digits_behind byte taken digits number look) ∙ ap (λ (n : ℕ). uint_after (next_number number taken digits) (drop n bits)) (sym (look.whole all)))

pub uint_ends_here : (byte taken digits number : ℕ) (bits : List Bool) → IsLook byte taken digits → BeginsWith bits (byte_bits byte) → taken < 8 → taken ≤ length bits
    → uint_after number bits ≡ Some (number * 2 ^ (taken / 2) + digits - 1, drop taken bits)
uint_ends_here byte taken digits number bits look begin fewer enough =
    let next = next_number number taken digits in
    let within = (look.ends fewer).0 in
    uint_pairs look.list number bits (begins_pairs byte taken digits bits look begin) (omega (arith, within)) ∙ ap (λ (n : ℕ). uint_after n (drop (2 * length look.list) bits)) (digits_behind byte taken digits number look)
    ∙ uint_ends next (drop (2 * length look.list) bits) (one_behind byte taken digits bits look begin fewer) (omega (arith, within, length-drop (2 * length look.list) bits))
    ∙ ap (λ (rest : List Bool). Some (next - 1, rest)) (behind_one byte taken digits bits look fewer)

-- the bits end before the code does
pub uint_cut : (byte taken digits number : ℕ) (bits : List Bool) → IsLook byte taken digits → BeginsWith bits (byte_bits byte) → length bits < taken → uint_after number bits ≡ None
uint_cut byte taken digits number bits look begin few =
    uint_none look.list number bits (begins_pairs byte taken digits bits look begin)
    (elim (cases_lt taken 8) [ inl fewer ↦ omega (arith, (look.ends fewer).0) | inr all ↦ omega (arith, look.whole all) ])

-- a number that isn't 0 stays so
pub more_is_some : (number taken digits : ℕ) → 0 < number → 0 < number * 2 ^ (taken / 2) + digits
more_is_some number taken digits some = omega (arith, mul-le 1 1 number (2 ^ (taken / 2)) some (pow_pos (taken / 2)))

-- ---- a signed number whose code and sign are within a byte

short_unsigned : (byte taken digits : ℕ) (bits : List Bool) → IsLook byte taken digits → BeginsWith bits (byte_bits byte) → taken < 8 → bounded_uint bits ≡ (1 * 2 ^ (taken / 2) + digits - 1, drop taken bits)
unfolding bounded_uint
short_unsigned byte taken digits bits look begin fewer = block_ends byte taken digits 1 bits look begin fewer

signed-zero : (negative : Bool) (magnitude : ℕ) → magnitude ≡ 0 → signed negative magnitude ≡ pos 0
signed-zero true magnitude none = rw none refl
signed-zero false magnitude none = rw none refl

pub short_signed : (byte taken digits magnitude : ℕ) (negative : Bool) (bits : List Bool) → IsLook byte taken digits → BeginsWith bits (byte_bits byte) → taken < 8
    → magnitude ≡ 1 * 2 ^ (taken / 2) + digits - 1 → negative ≡ eqb (bit_at byte (7 - taken)) 1 → bounded_sint bits ≡ (signed negative magnitude, drop (taken + bool_byte (ltb 0 magnitude)) bits)
short_signed byte taken digits magnitude negative bits look begin fewer number sign =
    let read = short_unsigned byte taken digits bits look begin fewer in
    let whole : (bounded_uint bits).0 ≡ magnitude = ap (λ (x : ℕ × List Bool). x.0) read ∙ sym number in
    let rest : (bounded_uint bits).1 ≡ drop taken bits = ap (λ (x : ℕ × List Bool). x.1) read in
    elim (cases_lt 0 magnitude) [
      | inl some ↦
          let here : bounded (bounded_uint bits).1 0 ≡ negative = ap (λ (xs : List Bool). bounded xs 0) rest ∙ bounded-drop taken 0 bits ∙ ap (bounded bits) (add-zero taken) ∙ begin taken (omega (arith, length-byte_bits byte)) ∙ bit_of_byte byte taken fewer ∙ sym sign in
          let test : bool_byte (ltb 0 magnitude) ≡ 1 = ap bool_byte (lt-ltb 0 magnitude some) in
          let behind : drop 1 (bounded_uint bits).1 ≡ drop (taken + bool_byte (ltb 0 magnitude)) bits = ap (drop 1) rest ∙ drop-drop 1 taken bits ∙ ap (λ (n : ℕ). drop (taken + n) bits) (sym test) in
          sint-some bits (omega (arith, whole)) ∙ pair (ap (λ (b : Bool). signed b (bounded_uint bits).0) here ∙ ap (signed negative) whole) behind
      | inr none ↦
          let zero : magnitude ≡ 0 = omega arith in
          let test : bool_byte (ltb 0 magnitude) ≡ 0 = ap bool_byte (le-ltb 0 magnitude none) in
          let behind : (bounded_uint bits).1 ≡ drop (taken + bool_byte (ltb 0 magnitude)) bits = rest ∙ ap (λ (n : ℕ). drop n bits) (sym (add-zero taken)) ∙ ap (λ (n : ℕ). drop (taken + n) bits) (sym test) in
          sint-none bits (whole ∙ zero) ∙ pair (sym (signed-zero negative magnitude zero)) behind
    ]
  where
    pair : {v w : ℤ} {xs ys : List Bool} → v ≡ w → xs ≡ ys → ◌≡◌ {A = ℤ × List Bool} (v, xs) (w, ys)
    pair {v} {w} {xs} {ys} first second = ap (λ (x : ℤ). let y : ℤ × List Bool = (x, xs) in y) first ∙ ap (λ (rest : List Bool). let y : ℤ × List Bool = (w, rest) in y) second

-- a code of one bit is that of 0
pub short_sign : (byte taken digits magnitude : ℕ) → IsLook byte taken digits → taken < 8 → magnitude ≡ 1 * 2 ^ (taken / 2) + digits - 1 → bool_byte (ltb 1 taken) ≡ bool_byte (ltb 0 magnitude)
short_sign byte taken digits magnitude look fewer number =
    let odd = (look.ends fewer).0 in
    elim (cases_lt 1 taken) [
      | inl more ↦
          let two : 2 ^ (taken / 2) ≡ 2 ^ (taken / 2 - 1) * 2 = ap (λ (n : ℕ). 2 ^ n) (let e : taken / 2 ≡ suc (taken / 2 - 1) = omega arith in e) ∙ pow-suc 2 (taken / 2 - 1) in
          let some : 0 < magnitude = omega (arith, two, pow_pos (taken / 2 - 1)) in
          rw (lt-ltb 1 taken more, lt-ltb 0 magnitude some) refl
      | inr one ↦
          let none : number_of look.list ≡ 0 = no_digit look.list (omega (arith, odd)) in
          let zero : magnitude ≤ 0 = omega (arith, look.number, none, ap (λ (n : ℕ). 2 ^ n) (let e : taken / 2 ≡ 0 = omega arith in e)) in
          rw (le-ltb 1 taken one, le-ltb 0 magnitude zero) refl
    ]
  where
    no_digit : (list : List Bool) → length list ≡ 0 → number_of list ≡ 0
    no_digit [] none = refl
    no_digit (digit ∷ list) none = absurd (omega arith)

-- The code of a number, as it is written digit by digit.
use Rattle.std.proofs.Common.{◌≡◌, ℕ, zero, suc, ◌+◌, ◌*◌, ◌/◌, ◌^◌, ◌<◌, ◌≤◌, ℤ, Bool, true, false, eqb, List, [], ◌∷◌, ◌++◌, refl, sym, ap, subst, ◌∙◌, arith, append_assoc, append-nil, add-one}
use Rattle.std.specs.Prelude.{unsigned_abs, pos}
use Rattle.std.specs.Int.{bit_at, is_negative}
use Rattle.std.proofs.Math.Nat.{div-div-eq-div-mul, pow-suc}
use Rattle.std.proofs.lemmas.Bool.{le-ltb}
use Rattle.std.proofs.lemmas.Nat.{le-div, div_below, pow_pos}
use Rattle.vc_types.specs.Bits.{digit_of}
use Rattle.vc_types.specs.Codes.{spread_digits, uint_bits, sign_bits, sint_bits}
use Rattle.vc_types.proofs.Codes.{spread_digits-push, none_before}
use Rattle.vc_types.proofs.Digits.{bit_back}
use Rattle.vc_golomb.specs.Writing.{WroteFront}

-- the binary digits of a number down to a place
abbrev upper : ℕ → ℕ → ℕ
upper number place = number / 2 ^ place

one_more : (number place : ℕ) → upper number place ≡ 2 * upper number (place + 1) + digit_of (eqb (bit_at number place) 1)
one_more number place =
    let half : upper number place / 2 ≡ upper number (place + 1) = div-div-eq-div-mul number (2 ^ place) 2 ∙ ap (λ (n : ℕ). number / n) (sym (pow-suc 2 place)) ∙ rw add-one refl in
    omega (arith, half, bit_back number place)

-- a digit and the 0 before it are written
pub spread_more : (number place : ℕ) → 0 < number / 2 ^ (place + 1) → spread_digits (number / 2 ^ place) ≡ spread_digits (number / 2 ^ (place + 1)) ++ false ∷ eqb (bit_at number place) 1 ∷ []
spread_more number place some = ap spread_digits (one_more number place) ∙ spread_digits-push (number / 2 ^ (place + 1)) (eqb (bit_at number place) 1) some

pub some_above : (number place : ℕ) → 0 < number / 2 ^ (place + 1) → 0 < number / 2 ^ place
some_above number place some = omega (arith, one_more number place)

-- the digits down to a place are a front of all digits
front_of : (place number : ℕ) → 0 < number / 2 ^ place → (rest : List Bool) × (spread_digits number ≡ spread_digits (number / 2 ^ place) ++ rest)
front_of zero number some = let all : number / 2 ^ 0 ≡ number = omega arith in ([], ap spread_digits (sym all) ∙ sym (append-nil (spread_digits (number / 2 ^ 0))))
front_of (suc place) number some =
    let here : 0 < number / 2 ^ (place + 1) = rw add-one some in
    let before = front_of place number (some_above number place here) in
    let pair = false ∷ eqb (bit_at number place) 1 ∷ [] in
    let same : spread_digits (number / 2 ^ (place + 1)) ≡ spread_digits (number / 2 ^ suc place) = rw add-one refl in
    (pair ++ before.0, before.1 ∙ ap (λ (bits : List Bool). bits ++ before.0) (spread_more number place here) ∙ append_assoc (spread_digits (number / 2 ^ (place + 1))) pair before.0 ∙ ap (λ (bits : List Bool). bits ++ (pair ++ before.0)) same)

-- where the digits down to a place are written
front_digits : (v place : ℕ) → 0 < (v + 1) / 2 ^ place → (rest : List Bool) × (uint_bits v ≡ spread_digits ((v + 1) / 2 ^ place) ++ rest)
unfolding uint_bits
front_digits v place some =
    let all = front_of place (v + 1) some in
    (all.0 ++ true ∷ [], ap (λ (bits : List Bool). bits ++ true ∷ []) all.1 ∙ append_assoc (spread_digits ((v + 1) / 2 ^ place)) all.0 (true ∷ []))

pub front_at : (v place : ℕ) (old new : List Bool) → 0 < (v + 1) / 2 ^ place → new ≡ old ++ spread_digits ((v + 1) / 2 ^ place) → WroteFront (uint_bits v) old new
front_at v place old new some is = grind (arith, front_digits)

-- and the 0 before the next digit
pub front_within : (v place : ℕ) (old new : List Bool) → 0 < (v + 1) / 2 ^ (place + 1) → new ≡ (old ++ spread_digits ((v + 1) / 2 ^ (place + 1))) ++ false ∷ [] → WroteFront (uint_bits v) old new
front_within v place old new some is =
    let all = front_digits v place (some_above (v + 1) place some) in
    let digits = spread_digits ((v + 1) / 2 ^ (place + 1)) in
    let bit = eqb (bit_at (v + 1) place) 1 in
    let more : spread_digits ((v + 1) / 2 ^ place) ≡ (digits ++ false ∷ []) ++ bit ∷ [] = spread_more (v + 1) place some ∙ sym (append_assoc digits (false ∷ []) (bit ∷ [])) in
    (digits ++ false ∷ [], bit ∷ all.0, all.1 ∙ ap (λ (bits : List Bool). bits ++ all.0) more ∙ append_assoc (digits ++ false ∷ []) (bit ∷ []) all.0, is ∙ append_assoc old digits (false ∷ []))

-- all digits and the 1
pub whole_code : (v place : ℕ) (old bits new : List Bool) → place ≡ 0 → bits ≡ old ++ spread_digits ((v + 1) / 2 ^ place) → new ≡ bits ++ true ∷ [] → new ≡ old ++ uint_bits v
unfolding uint_bits
whole_code v place old bits new none so_far is = grind (arith, append_assoc)

-- no digit but the first
pub first : (v place : ℕ) → 2 ^ place ≤ v + 1 → 0 < (v + 1) / 2 ^ place
first v place low = omega (arith, le-div 1 (v + 1) (2 ^ place) (pow_pos place) (omega arith))

pub none_yet : (v place : ℕ) (old : List Bool) → 2 ^ place ≤ v + 1 → v + 1 < 2 * 2 ^ place → old ≡ old ++ spread_digits ((v + 1) / 2 ^ place)
none_yet v place old low high =
    let one : (v + 1) / 2 ^ place ≡ 1 = omega (arith, le-div 1 (v + 1) (2 ^ place) (pow_pos place) (omega arith), div_below (v + 1) (2 ^ place) 2 (pow_pos place) high) in
    let empty : spread_digits 1 ≡ [] = sym (append-nil (spread_digits 1)) ∙ none_before [] in
    sym (ap (λ (n : ℕ). old ++ spread_digits n) one ∙ ap (λ (bits : List Bool). old ++ bits) empty ∙ append-nil old)

-- two bits, one after another
pub pair_more : (v place : ℕ) (old before first second : List Bool) → 0 < (v + 1) / 2 ^ (place + 1) → before ≡ old ++ spread_digits ((v + 1) / 2 ^ (place + 1)) → first ≡ before ++ false ∷ []
    → second ≡ first ++ eqb (bit_at (v + 1) place) 1 ∷ [] → second ≡ old ++ spread_digits ((v + 1) / 2 ^ place)
pair_more v place old before first second some so_far is_first is_second =
    grind (arith, append_assoc, spread_more)

-- ---- signed numbers

-- a front of the magnitude's code is one of the number's
pub front_magnitude : (v : ℤ) (old new : List Bool) → WroteFront (uint_bits (unsigned_abs v)) old new → WroteFront (sint_bits v) old new
unfolding sint_bits
front_magnitude v old new wrote = (wrote.0, wrote.1 ++ sign_bits v, ap (λ (bits : List Bool). bits ++ sign_bits v) wrote.2 ∙ append_assoc wrote.0 wrote.1 (sign_bits v), wrote.3)

pub sign_pos : (n : ℕ) → is_negative (pos n) ≡ false
sign_pos n = le-ltb n 0 (omega arith)

-- no sign, and a sign
pub no_sign : (v : ℤ) (magnitude : ℕ) (old new : List Bool) → magnitude ≡ unsigned_abs v → magnitude ≡ 0 → new ≡ old ++ uint_bits magnitude → new ≡ old ++ sint_bits v
unfolding sint_bits
no_sign v magnitude old new same none is = grind (arith, append-nil)

pub signed : (v : ℤ) (magnitude : ℕ) (old mid new : List Bool) → magnitude ≡ unsigned_abs v → (magnitude ≡ 0 → ⊥) → mid ≡ old ++ uint_bits magnitude → new ≡ mid ++ is_negative v ∷ [] → new ≡ old ++ sint_bits v
unfolding sint_bits
signed v magnitude old mid new same some so_far is = grind (arith, sign_pos, append_assoc)

-- a magnitude alone is a front
pub front_unsigned : (v : ℤ) (magnitude : ℕ) (old new : List Bool) → magnitude ≡ unsigned_abs v → WroteFront (uint_bits magnitude) old new → WroteFront (sint_bits v) old new
front_unsigned v magnitude old new same wrote = front_magnitude v old new (subst (λ (m : ℕ). WroteFront (uint_bits m) old new) same wrote)

pub front_whole : (v : ℤ) (magnitude : ℕ) (old new : List Bool) → magnitude ≡ unsigned_abs v → new ≡ old ++ uint_bits magnitude → WroteFront (sint_bits v) old new
front_whole v magnitude old new same is = front_unsigned v magnitude old new same (uint_bits magnitude, [], sym (append-nil (uint_bits magnitude)), is)

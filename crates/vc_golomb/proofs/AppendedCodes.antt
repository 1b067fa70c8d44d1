-- Codes of numbers that are added to bits, digit by digit and one behind the other.
use Rattle.std.proofs.Common.{◌≡◌, ℕ, ◌+◌, ◌-◌, ◌*◌, ◌/◌, ◌%◌, ◌^◌, ◌<◌, ◌≤◌, ℤ, pos, Bool, true, false, eqb, List, [], ◌∷◌, ◌++◌, length, take, get_or, refl, sym, ap, subst, ◌∙◌, arith, append_assoc, append-nil}
use Rattle.std.specs.Prelude.{unsigned_abs}
use Rattle.std.specs.Int.{bit_at, is_negative}
use Rattle.std.specs.List.{flat_map}
use mir.Val.{bool_byte}
use Rattle.std.proofs.Math.Nat.{pow-le-pow_right}
use Rattle.std.proofs.lemmas.Nat.{div_below, pow-add, pow_pos}
use Rattle.std.proofs.lemmas.List.{take_more}
use Rattle.std.proofs.lemmas.List.Concat.{flat_map-append}
use Rattle.std.proofs.lemmas.Nat.Bits.{bit_at-lt}
use Rattle.vc_types.specs.Codes.{spread_digits, sint_bits}
use Rattle.vc_bits.specs.Bits.{word_bits}
use Rattle.vc_bits.proofs.Peeking.{low_bits_of}
use Rattle.vc_bits.proofs.Waiting.{joined_bits, joined_fits}
use Rattle.vc_bits.proofs.Words.{same_word_bits, split}
use Rattle.vc_golomb.proofs.WrittenCodes.{pair_more, none_yet, some_above, whole_code, signed}

-- a digit and the 0 before it, as the last two bits of a word
digit_bits : (digit : ℕ) → digit < 2 → word_bits 2 digit ≡ false ∷ eqb digit 1 ∷ []
unfolding word_bits
digit_bits digit small = grind arith

pub digit_added : (v place digit : ℕ) (old before after : List Bool) → 0 < (v + 1) / 2 ^ (place + 1) → before ≡ old ++ spread_digits ((v + 1) / 2 ^ (place + 1)) → digit ≡ bit_at (v + 1) place → after ≡ before ++ word_bits 2 digit → after ≡ old ++ spread_digits ((v + 1) / 2 ^ place)
digit_added v place digit old before after some so_far is added =
    grind (arith, digit_bits, bit_at-lt, pair_more, append_assoc)

-- the end of the digits and a sign
end_bits : (sign : Bool) → word_bits 2 (2 + bool_byte sign) ≡ true ∷ sign ∷ []
unfolding word_bits
end_bits true = refl
end_bits false = refl

pub sign_added : (v : ℤ) (place sign : ℕ) (old before after : List Bool) → place ≡ 0 → 0 < unsigned_abs v → before ≡ old ++ spread_digits ((unsigned_abs v + 1) / 2 ^ place) → sign ≡ bool_byte (is_negative v) → after ≡ before ++ word_bits 2 (2 + sign) → after ≡ old ++ sint_bits v
sign_added v place sign old before after none some so_far is added =
    grind (arith, end_bits, whole_code, signed, append_assoc)

-- the last bits of a word are digits, each with a 0 before it: none yet
pub no_digit_yet : (v digits : ℕ) → 2 ^ digits ≤ v + 1 → v + 1 < 2 * 2 ^ digits → word_bits (2 * (digits - digits)) 0 ≡ spread_digits ((v + 1) / 2 ^ digits)
unfolding word_bits
no_digit_yet v digits low high =
    let none : 2 * (digits - digits) ≡ 0 = omega arith in
    ap (λ (n : ℕ). word_bits n 0) none ∙ none_yet v digits [] low high

-- and one more
pub digit_joined : (v digits place code digit : ℕ) → 0 < place → place ≤ digits → 0 < (v + 1) / 2 ^ place → word_bits (2 * (digits - place)) code ≡ spread_digits ((v + 1) / 2 ^ place) → digit ≡ bit_at (v + 1) (place - 1)
    → word_bits (2 * (digits - (place - 1))) (code * 4 + digit) ≡ spread_digits ((v + 1) / 2 ^ (place - 1))
digit_joined v digits place code digit more within some so_far is =
    let have = 2 * (digits - place) in
    let next = place - 1 in
    let here : place ≡ next + 1 = omega arith in
    let parts : 2 * (digits - next) ≡ have + 2 = omega arith in
    let small : digit < 2 ^ 2 = omega (arith, is, bit_at-lt (v + 1) next) in
    ap (λ (n : ℕ). word_bits n (code * 4 + digit)) parts
    ∙ digit_added v next digit [] (word_bits have code) (word_bits (have + 2) (code * 4 + digit)) (subst (λ (n : ℕ). 0 < (v + 1) / 2 ^ n) here some)
    (so_far ∙ ap (λ (n : ℕ). spread_digits ((v + 1) / 2 ^ n)) here) is (joined_bits have code 2 digit small)

pub digit_fits : (digits place code digit : ℕ) → 0 < place → place ≤ digits → code < 2 ^ (2 * (digits - place)) → digit < 2 → code * 4 + digit < 2 ^ (2 * (digits - (place - 1)))
digit_fits digits place code digit more within fits small =
    let have = 2 * (digits - place) in
    let parts : have + 2 ≡ 2 * (digits - (place - 1)) = omega arith in
    subst (λ (n : ℕ). code * 4 + digit < 2 ^ n) parts (joined_fits have code 2 digit fits (omega (arith, small)))

pub some_before : (number place : ℕ) → 0 < place → 0 < number / 2 ^ place → 0 < number / 2 ^ (place - 1)
some_before number place more some =
    let here : place ≡ place - 1 + 1 = omega arith in
    some_above number (place - 1) (subst (λ (n : ℕ). 0 < number / 2 ^ n) here some)

-- and their end and a sign
pub sign_below : (sign : Bool) → bool_byte sign < 2
sign_below true = omega arith
sign_below false = omega arith

pub code_joined : (v : ℤ) (magnitude digits place code sign : ℕ) → magnitude ≡ unsigned_abs v → place ≡ 0 → 0 < unsigned_abs v → word_bits (2 * (digits - place)) code ≡ spread_digits ((magnitude + 1) / 2 ^ place)
    → sign ≡ bool_byte (is_negative v) → word_bits (2 * digits + 2) (code * 4 + (2 + sign)) ≡ sint_bits v
code_joined v magnitude digits place code sign same none some so_far is =
    let all : 2 * digits ≡ 2 * (digits - place) = omega (arith, none) in
    let small : 2 + sign < 2 ^ 2 = omega (arith, is, sign_below (is_negative v)) in
    let all_digits = word_bits (2 * digits) code in
    joined_bits (2 * digits) code 2 (2 + sign) small
    ∙ sign_added v place sign [] all_digits (all_digits ++ word_bits 2 (2 + sign)) none some
    (ap (λ (n : ℕ). word_bits n code) all ∙ so_far ∙ ap (λ (n : ℕ). spread_digits ((n + 1) / 2 ^ place)) same) is refl

pub code_fits : (digits place code sign : ℕ) (negative : Bool) → place ≤ 0 → code < 2 ^ (2 * (digits - place)) → sign ≡ bool_byte negative → code * 4 + (2 + sign) < 2 ^ (2 * digits + 2)
code_fits digits place code sign negative none fits is =
    let all : 2 * (digits - place) ≡ 2 * digits = omega (arith, none) in
    joined_fits (2 * digits) code 2 (2 + sign) (subst (λ (n : ℕ). code < 2 ^ n) all fits) (omega (arith, is, sign_below negative))

-- a word of 62 bits at most has room for two more
pub has_room : (n code : ℕ) → n ≤ 62 → code < 2 ^ n → code < 2 ^ 62
has_room n code few fits = let power : 2 ^ n ≤ 2 ^ 62 = pow-le-pow_right (omega arith) {j = 62} few in omega (arith, fits, power)

-- a word in two parts, the second of 32 bits
pub two_parts : (count number : ℕ) (old between after : List Bool) → 32 ≤ count → between ≡ old ++ word_bits (count - 32) (number / 2 ^ 32) → after ≡ between ++ word_bits 32 (number % 2 ^ 32) → after ≡ old ++ word_bits count number
two_parts count number old between after long is_first is_second =
    let parts : count - 32 + 32 ≡ count = omega arith in
    let first = word_bits (count - 32) (number / 2 ^ 32) in
    let last : word_bits 32 (number % 2 ^ 32) ≡ word_bits 32 number = same_word_bits 32 (number % 2 ^ 32) number (λ i lt. low_bits_of number 32 i lt) in
    is_second ∙ ap (λ (bits : List Bool). bits ++ word_bits 32 (number % 2 ^ 32)) is_first ∙ append_assoc old first (word_bits 32 (number % 2 ^ 32))
    ∙ ap (λ (bits : List Bool). old ++ bits) (ap (λ (bits : List Bool). first ++ bits) last ∙ sym (split (count - 32) 32 number) ∙ ap (λ (n : ℕ). word_bits n number) parts)

pub first_part_fits : (count number : ℕ) → 32 ≤ count → number < 2 ^ count → number / 2 ^ 32 < 2 ^ (count - 32)
first_part_fits count number long fits =
    let parts : count ≡ count - 32 + 32 = omega arith in
    let power : 2 ^ count ≡ 2 ^ (count - 32) * 2 ^ 32 = ap (λ (n : ℕ). 2 ^ n) parts ∙ pow-add 2 (count - 32) 32 in
    div_below number (2 ^ 32) (2 ^ (count - 32)) (pow_pos 32) (omega (arith, fits, power))

-- one more code behind those of the first numbers
pub code_more : (numbers : List ℤ) (i : ℕ) (before after : List Bool) → i < length numbers → before ≡ flat_map sint_bits (take i numbers) → after ≡ before ++ sint_bits (get_or numbers i (pos 0)) → after ≡ flat_map sint_bits (take (i + 1) numbers)
code_more numbers i before after below so_far added =
    let z = get_or numbers i (pos 0) in
    added
    ∙ ap (λ (bits : List Bool). bits ++ sint_bits z) so_far
    ∙ ap (λ (bits : List Bool). flat_map sint_bits (take i numbers) ++ bits) (sym (append-nil (sint_bits z)))
    ∙ sym (flat_map-append sint_bits (take i numbers) (z ∷ []))
    ∙ ap (flat_map sint_bits) (sym (take_more numbers i (pos 0) below))

-- and two more
pair_added : (numbers : List ℤ) (i : ℕ) (before after : List Bool) → i + 1 < length numbers → before ≡ flat_map sint_bits (take i numbers)
    → after ≡ before ++ (sint_bits (get_or numbers i (pos 0)) ++ sint_bits (get_or numbers (i + 1) (pos 0))) → after ≡ flat_map sint_bits (take (i + 2) numbers)
pair_added numbers i before after below so_far added =
    let first = get_or numbers i (pos 0) in
    let second = get_or numbers (i + 1) (pos 0) in
    let next : i + 1 + 1 ≡ i + 2 = omega arith in
    code_more numbers (i + 1) (before ++ sint_bits first) after below
    (code_more numbers i before (before ++ sint_bits first) (omega arith) so_far refl)
    (added ∙ sym (append_assoc before (sint_bits first) (sint_bits second)))
    ∙ ap (λ (n : ℕ). flat_map sint_bits (take n numbers)) next

-- and three more
pub triple_added : (numbers : List ℤ) (i : ℕ) (before after : List Bool) → i + 2 < length numbers → before ≡ flat_map sint_bits (take i numbers)
    → after ≡ before ++ ((sint_bits (get_or numbers i (pos 0)) ++ sint_bits (get_or numbers (i + 1) (pos 0))) ++ sint_bits (get_or numbers (i + 2) (pos 0)))
    → after ≡ flat_map sint_bits (take (i + 3) numbers)
triple_added numbers i before after below so_far added =
    let pair = sint_bits (get_or numbers i (pos 0)) ++ sint_bits (get_or numbers (i + 1) (pos 0)) in
    let next : i + 2 + 1 ≡ i + 3 = omega arith in
    code_more numbers (i + 2) (before ++ pair) after below
    (pair_added numbers i before (before ++ pair) (omega (arith, below)) so_far refl)
    (added ∙ sym (append_assoc before pair (sint_bits (get_or numbers (i + 2) (pos 0)))))
    ∙ ap (λ (n : ℕ). flat_map sint_bits (take n numbers)) next

-- A code that is read in a block is the code that stands there, and it is the only one.
use Rattle.std.proofs.Common.{◌≡◌, ℕ, zero, suc, ◌+◌, ◌-◌, ◌*◌, ◌<◌, ◌≤◌, ℤ, pos, eqb, Bool, true, false, List, [], ◌∷◌, ◌++◌, length, get_or, drop, refl, sym, ap, subst, ◌∙◌, arith, inl, inr, append_assoc, append-nil, length-append, replicate, Some, negsuc, zero-add, add-zero, suc-add}
use Rattle.std.specs.Prelude.{unsigned_abs}
use Rattle.std.proofs.lemmas.Bool.{cases_lt, ne_eqb}
use Rattle.std.proofs.lemmas.List.{get_or_append_left, get_or-replicate, get_or_past, get_or_push, drop-drop, length-replicate}
use Rattle.std.proofs.Math.Seq.{get_or-append_right}
use Rattle.std.proofs.lemmas.List.Prefix.{front_from_reads}
use Rattle.std.proofs.lemmas.Option.{same_Some}
use Rattle.vc_types.specs.Bits.{digit_of}
use Rattle.vc_types.specs.Codes.{spread_digits, uint_bits, uint_at, sign_bits, sint_bits, uint_after}
use Rattle.vc_types.specs.Bounded.{BeginsWith, bounded, bounded_uint_after, bounded_uint, signed, with_sign, bounded_sint}
use Rattle.vc_types.proofs.Codes.{spread_digits-push, uint_at-uint_bits, none_before}

-- two blocks have the same bits, with the ones behind them
pub record SameBounded (xs ys : List Bool) : Type 0 where
  pub at : (place : ℕ) → get_or xs place true ≡ get_or ys place true

same_list : (xs ys : List Bool) → xs ≡ ys → SameBounded xs ys
same_list xs ys h = record { at = λ place. ap (λ (x : List Bool). get_or x place true) h }

trans : (xs ys zs : List Bool) → SameBounded xs ys → SameBounded ys zs → SameBounded xs zs
trans xs ys zs p q = record { at = λ place. p.at place ∙ q.at place }

-- ones at the end are there already
pub same_ones : (xs : List Bool) (n : ℕ) → SameBounded xs (xs ++ replicate n true)
same_ones xs n = record {
  at = λ place.
      elim (cases_lt place (length xs)) [
        | inl lt ↦ sym (get_or_append_left xs (replicate n true) true place lt)
        | inr le ↦ get_or_past xs place true le ∙ sym (get_or-append_right xs (replicate n true) place true le ∙ ones (place - length xs))
      ];
}
  where
    ones : (k : ℕ) → get_or (replicate n true) k true ≡ true
    ones k = elim (cases_lt k n) [ inl lt ↦ get_or-replicate n k true true lt | inr le ↦ get_or_past (replicate n true) k true (omega (arith, length-replicate n true)) ]

-- what begins a block
begins : (xs code others : List Bool) → SameBounded xs (code ++ others) → BeginsWith xs code
begins xs code others same place lt = same.at place ∙ get_or_append_left code others true place lt

-- what was read where the digits of a number were read before
record ReadsBounded (number : ℕ) (bits : List Bool) (x : ℕ × List Bool) : Type 0 where
  others : List Bool
  same : SameBounded (spread_digits number ++ bits) (uint_bits x.0 ++ others)
  taken : ℕ
  long : length (spread_digits number) + taken ≡ length (uint_bits x.0)
  rest : x.1 ≡ drop taken bits

-- the code of a number below a number
code_before : (number : ℕ) → 0 < number → uint_bits (number - 1) ≡ spread_digits number ++ true ∷ []
unfolding uint_bits
code_before number some = let back : number - 1 + 1 ≡ number = omega arith in ap (λ (n : ℕ). spread_digits n ++ true ∷ []) back

length_before : (number : ℕ) → 0 < number → length (spread_digits number) + 1 ≡ length (uint_bits (number - 1))
length_before number some = omega (arith, ap length (code_before number some), length-append (spread_digits number) (true ∷ []))

bounded_uint_after-reads : (number : ℕ) (bits : List Bool) → 0 < number → ReadsBounded number bits (bounded_uint_after number bits)
unfolding bounded_uint_after
bounded_uint_after-reads number [] some = record {
  others = [];
  same = trans _ _ _ (trans _ _ _ (same_list (spread_digits number ++ []) (spread_digits number) (append-nil (spread_digits number))) (same_ones (spread_digits number) 1)) (same_list (spread_digits number ++ true ∷ []) (uint_bits (number - 1) ++ []) (sym (code_before number some) ∙ sym (append-nil (uint_bits (number - 1)))));
  taken = 1;
  long = length_before number some;
  rest = refl;
}
bounded_uint_after-reads number (true ∷ bits) some = record {
  others = bits;
  same = same_list (spread_digits number ++ true ∷ bits) (uint_bits (number - 1) ++ bits) (sym (append_assoc (spread_digits number) (true ∷ []) bits) ∙ ap (λ (x : List Bool). x ++ bits) (sym (code_before number some)));
  taken = 1;
  long = length_before number some;
  rest = refl;
}
bounded_uint_after-reads number (false ∷ []) some =
    let next = 2 * number + 1 in
    let more : spread_digits next ≡ spread_digits number ++ false ∷ true ∷ [] = spread_digits-push number true some in
    let same_number : next - 1 ≡ 2 * number = omega arith in
    let code : uint_bits (2 * number) ≡ spread_digits next ++ true ∷ [] = ap uint_bits (sym same_number) ∙ code_before next (omega arith) in
    let first : SameBounded (spread_digits number ++ false ∷ []) ((spread_digits number ++ false ∷ []) ++ true ∷ true ∷ []) = same_ones (spread_digits number ++ false ∷ []) 2 in
    let whole : (spread_digits number ++ false ∷ []) ++ true ∷ true ∷ [] ≡ uint_bits (2 * number) ++ [] = append_assoc (spread_digits number) (false ∷ []) (true ∷ true ∷ []) ∙ sym (append_assoc (spread_digits number) (false ∷ true ∷ []) (true ∷ [])) ∙ ap (λ (x : List Bool). x ++ true ∷ []) (sym more) ∙ sym code ∙ sym (append-nil (uint_bits (2 * number))) in
    record {
      others = [];
      same = trans _ _ _ first (same_list _ _ whole);
      taken = 3;
      long = omega (arith, ap length code, ap length more, length-append (spread_digits next) (true ∷ []), length-append (spread_digits number) (false ∷ true ∷ []));
      rest = refl;
    }
bounded_uint_after-reads number (false ∷ bit ∷ bits) some =
    let next = 2 * number + digit_of bit in
    let more : spread_digits next ≡ spread_digits number ++ false ∷ bit ∷ [] = spread_digits-push number bit some in
    let read = bounded_uint_after-reads next bits (omega arith) in
    let here : spread_digits number ++ false ∷ bit ∷ bits ≡ spread_digits next ++ bits = sym (append_assoc (spread_digits number) (false ∷ bit ∷ []) bits) ∙ ap (λ (x : List Bool). x ++ bits) (sym more) in
    record {
      others = read.others;
      same = trans _ _ _ (same_list _ _ here) read.same;
      taken = 2 + read.taken;
      long = omega (arith, read.long, ap length more, length-append (spread_digits number) (false ∷ bit ∷ []));
      rest = read.rest ∙ drop-drop read.taken 2 (false ∷ bit ∷ bits);
    }

-- what is read in a block is what stands there
pub record IsBounded (bits : List Bool) (v : ℕ) (rest : List Bool) : Type 0 where
  pub code : BeginsWith bits (uint_bits v)
  pub behind : rest ≡ drop (length (uint_bits v)) bits

pub bounded_uint-is : (bits : List Bool) → IsBounded bits (bounded_uint bits).0 (bounded_uint bits).1
unfolding bounded_uint
bounded_uint-is bits =
    let read = bounded_uint_after-reads 1 bits (omega arith) in
    let none : length (spread_digits 1) ≡ 0 = ap length (sym (append-nil (spread_digits 1)) ∙ none_before []) in
    let taken : read.taken ≡ length (uint_bits (bounded_uint bits).0) = omega (arith, read.long, none) in
    record {
      code = begins bits (uint_bits (bounded_uint bits).0) read.others (trans _ _ _ (same_list bits (spread_digits 1 ++ bits) (sym (none_before bits))) read.same);
      behind = read.rest ∙ ap (λ (n : ℕ). drop n bits) taken;
    }

-- ---- the only one

-- a code that begins a block stands at the front of its bits and enough ones
stands : (bits code : List Bool) (n : ℕ) → length code ≤ n → BeginsWith bits code → bits ++ replicate n true ≡ code ++ drop (length code) (bits ++ replicate n true)
stands bits code n enough begin =
    front_from_reads true (bits ++ replicate n true) code (omega (arith, length-append bits (replicate n true), length-replicate n true)) (λ i lt. sym ((same_ones bits n).at i) ∙ begin i lt)

-- the front of a code
pub front_begins : (bits code others : List Bool) → BeginsWith bits (code ++ others) → BeginsWith bits code
front_begins bits code others begin place lt = begin place (omega (arith, length-append code others)) ∙ get_or_append_left code others true place lt

-- one number's code begins a block
pub one_uint : (bits : List Bool) (v w : ℕ) → BeginsWith bits (uint_bits v) → BeginsWith bits (uint_bits w) → v ≡ w
one_uint bits v w first second =
    let n = length (uint_bits v) + length (uint_bits w) in
    let whole = bits ++ replicate n true in
    let a : whole ≡ uint_bits v ++ drop (length (uint_bits v)) whole = stands bits (uint_bits v) n (omega arith) first in
    let b : whole ≡ uint_bits w ++ drop (length (uint_bits w)) whole = stands bits (uint_bits w) n (omega arith) second in
    let read_a = ap uint_at a ∙ uint_at-uint_bits v (drop (length (uint_bits v)) whole) in
    let read_b = ap uint_at b ∙ uint_at-uint_bits w (drop (length (uint_bits w)) whole) in
    ap (λ (p : ℕ × List Bool). p.0) (same_Some _ _ (sym read_a ∙ read_b))

-- ---- signed numbers

-- a code and the bit behind it
pub begins_push : (bits code : List Bool) (bit : Bool) → BeginsWith bits code → get_or bits (length code) true ≡ bit → BeginsWith bits (code ++ bit ∷ [])
begins_push bits code bit begin next place lt =
    elim (cases_lt place (length code)) [
      | inl here ↦ begin place here ∙ sym (get_or_append_left code (bit ∷ []) true place here)
      | inr le ↦
          let last : place ≡ length code = omega (arith, length-append code (bit ∷ [])) in
          rw last (next ∙ sym (get_or_push code bit true (length code) refl))
    ]

-- what is read in a block is what stands there
pub record IsSint (bits : List Bool) (v : ℤ) (rest : List Bool) : Type 0 where
  pub code : BeginsWith bits (sint_bits v)
  pub behind : rest ≡ drop (length (sint_bits v)) bits

pub signed-abs : (negative : Bool) (magnitude : ℕ) → unsigned_abs (signed negative magnitude) ≡ magnitude
signed-abs true zero = refl
signed-abs true (suc n) = refl
signed-abs false n = refl

sint_bits-signed : (negative : Bool) (magnitude : ℕ) → 0 < magnitude → sint_bits (signed negative magnitude) ≡ uint_bits magnitude ++ negative ∷ []
unfolding sint_bits
sint_bits-signed negative zero some = absurd (omega arith)
sint_bits-signed true (suc n) some = refl
sint_bits-signed false (suc n) some = refl

zero_is : (bits : List Bool) (whole : ℕ) (rest : List Bool) → IsBounded bits whole rest → whole ≡ 0 → IsSint bits (pos 0) rest
unfolding sint_bits
zero_is bits whole rest read none =
    let same : uint_bits whole ≡ sint_bits (pos 0) = ap uint_bits none ∙ sym (append-nil (uint_bits 0)) in
    record { code = subst (BeginsWith bits) same read.code; behind = read.behind ∙ ap (λ (code : List Bool). drop (length code) bits) same }

-- the bits behind some others
pub bounded-drop : (n place : ℕ) (bits : List Bool) → bounded (drop n bits) place ≡ bounded bits (n + place)
bounded-drop zero place bits = ap (bounded bits) (sym (zero-add place))
bounded-drop (suc n) place [] = get_or_past [] place true (omega arith) ∙ sym (get_or_past [] (suc n + place) true (omega arith))
bounded-drop (suc n) place (bit ∷ bits) = bounded-drop n place bits ∙ ap (bounded (bit ∷ bits)) (sym (suc-add n place))

first_is : (n : ℕ) (bits : List Bool) → bounded (drop n bits) 0 ≡ bounded bits n
first_is n bits = bounded-drop n 0 bits ∙ ap (bounded bits) (add-zero n)

sint_is : (bits : List Bool) (whole : ℕ) (rest : List Bool) → IsBounded bits whole rest → 0 < whole → IsSint bits (signed (bounded rest 0) whole) (drop 1 rest)
sint_is bits whole rest read some =
    let sign = bounded rest 0 in
    let here : get_or bits (length (uint_bits whole)) true ≡ sign = sym (first_is (length (uint_bits whole)) bits) ∙ ap (λ (xs : List Bool). bounded xs 0) (sym read.behind) in
    let same : uint_bits whole ++ sign ∷ [] ≡ sint_bits (signed sign whole) = sym (sint_bits-signed sign whole some) in
    let long : length (sint_bits (signed sign whole)) ≡ length (uint_bits whole) + 1 = ap length (sym same) ∙ length-append (uint_bits whole) (sign ∷ []) in
    record {
      code = subst (BeginsWith bits) same (begins_push bits (uint_bits whole) sign read.code here);
      behind = ap (drop 1) read.behind ∙ drop-drop 1 (length (uint_bits whole)) bits ∙ ap (λ (n : ℕ). drop n bits) (sym long);
    }

pub with_sign-none : (whole : ℕ) (rest : List Bool) → whole ≡ 0 → with_sign (whole, rest) ≡ (pos 0, rest)
with_sign-none whole rest none = rw none refl

pub with_sign-some : (whole : ℕ) (rest : List Bool) → 0 < whole → with_sign (whole, rest) ≡ (signed (bounded rest 0) whole, drop 1 rest)
with_sign-some whole rest some = let other : eqb whole 0 ≡ false = ne_eqb whole 0 (omega arith) in rw other refl

with_sign-is : (bits : List Bool) (whole : ℕ) (rest : List Bool) → IsBounded bits whole rest → IsSint bits (with_sign (whole, rest)).0 (with_sign (whole, rest)).1
with_sign-is bits whole rest read =
    elim (cases_lt 0 whole) [
      | inl some ↦ subst (λ (x : ℤ × List Bool). IsSint bits x.0 x.1) (sym (with_sign-some whole rest some)) (sint_is bits whole rest read some)
      | inr none ↦ let zero : whole ≡ 0 = omega arith in subst (λ (x : ℤ × List Bool). IsSint bits x.0 x.1) (sym (with_sign-none whole rest zero)) (zero_is bits whole rest read zero)
    ]

-- the signed number that is read in a block stands there
pub bounded_sint-is : (bits : List Bool) → IsSint bits (bounded_sint bits).0 (bounded_sint bits).1
unfolding bounded_sint
bounded_sint-is bits = with_sign-is bits (bounded_uint bits).0 (bounded_uint bits).1 (bounded_uint-is bits)

-- a number that stands there has the magnitude that is read
pub one_sint : (bits : List Bool) (v w : ℤ) → BeginsWith bits (sint_bits v) → BeginsWith bits (sint_bits w) → unsigned_abs v ≡ unsigned_abs w
unfolding sint_bits
one_sint bits v w first second =
    one_uint bits (unsigned_abs v) (unsigned_abs w) (front_begins bits (uint_bits (unsigned_abs v)) (sign_bits v) first) (front_begins bits (uint_bits (unsigned_abs w)) (sign_bits w) second)

-- ---- a code is read

bounded_uint_after-of : (number : ℕ) (bits : List Bool) (x : ℕ × List Bool) → uint_after number bits ≡ Some x → bounded_uint_after number bits ≡ x
unfolding uint_after bounded_uint_after
bounded_uint_after-of number [] x h = absurd cc
bounded_uint_after-of number (true ∷ bits) x h = same_Some (number - 1, bits) x h
bounded_uint_after-of number (false ∷ []) x h = absurd cc
bounded_uint_after-of number (false ∷ bit ∷ bits) x h = bounded_uint_after-of (2 * number + digit_of bit) bits x h

-- a whole code is read as its number, whatever follows it
pub bounded_uint-uint_bits : (v : ℕ) (rest : List Bool) → bounded_uint (uint_bits v ++ rest) ≡ (v, rest)
unfolding bounded_uint uint_at
bounded_uint-uint_bits v rest = bounded_uint_after-of 1 (uint_bits v ++ rest) (v, rest) (uint_at-uint_bits v rest)

pub bounded_sint-sint_bits : (v : ℤ) (rest : List Bool) → bounded_sint (sint_bits v ++ rest) ≡ (v, rest)
unfolding bounded_sint sint_bits
bounded_sint-sint_bits v rest =
    let regrouped : bounded_uint (sint_bits v ++ rest) ≡ (unsigned_abs v, sign_bits v ++ rest) = ap bounded_uint (append_assoc (uint_bits (unsigned_abs v)) (sign_bits v) rest) ∙ bounded_uint-uint_bits (unsigned_abs v) (sign_bits v ++ rest) in
    ap with_sign regrouped ∙ signed_back v
  where
    signed_back : (v : ℤ) → with_sign (unsigned_abs v, sign_bits v ++ rest) ≡ (v, rest)
    signed_back (pos zero) = refl
    signed_back (pos (suc n)) = with_sign-some (suc n) (false ∷ rest) (omega arith)
    signed_back (negsuc n) = with_sign-some (suc n) (true ∷ rest) (omega arith)

-- one signed number's code begins a block, and it is the number that is read
pub one_number : (bits : List Bool) (v w : ℤ) → BeginsWith bits (sint_bits v) → BeginsWith bits (sint_bits w) → v ≡ w
one_number bits v w begin_v begin_w =
    let n = length (sint_bits v) + length (sint_bits w) in
    let whole = bits ++ replicate n true in
    let a : whole ≡ sint_bits v ++ drop (length (sint_bits v)) whole = stands bits (sint_bits v) n (omega arith) begin_v in
    let b : whole ≡ sint_bits w ++ drop (length (sint_bits w)) whole = stands bits (sint_bits w) n (omega arith) begin_w in
    let read_a = ap bounded_sint a ∙ bounded_sint-sint_bits v (drop (length (sint_bits v)) whole) in
    let read_b = ap bounded_sint b ∙ bounded_sint-sint_bits w (drop (length (sint_bits w)) whole) in
    ap (λ (x : ℤ × List Bool). x.0) (sym read_a ∙ read_b)

pub bounded_sint-begins : (bits : List Bool) (v : ℤ) → BeginsWith bits (sint_bits v) → bounded_sint bits ≡ (v, drop (length (sint_bits v)) bits)
bounded_sint-begins bits v begin =
    let read = bounded_sint-is bits in
    let same : (bounded_sint bits).0 ≡ v = one_number bits (bounded_sint bits).0 v read.code begin in
    ap (λ (rest : List Bool). let x : ℤ × List Bool = ((bounded_sint bits).0, rest) in x) read.behind ∙ ap (λ (w : ℤ). let x : ℤ × List Bool = (w, drop (length (sint_bits w)) bits) in x) same

-- Bytes as bits: the next bit, and the next byte.
use Rattle.std.proofs.Common.{◌≡◌, ℕ, zero, suc, ◌+◌, ◌-◌, ◌*◌, ◌<◌, Bool, true, false, List, [], ◌∷◌, ◌++◌, length, get_or, take, drop, length-append, append-nil, refl, sym, ap, ◌∙◌, arith, eqb}
use Rattle.std.specs.Int.{bit_at}
use Rattle.std.specs.List.{flat_map}
use Rattle.std.proofs.lemmas.Grind.{flat_map-append}
use Rattle.std.proofs.Math.Seq.{drop-nil, take-nil, take-append-add}
use Rattle.std.proofs.lemmas.List.{drop-drop}
use Rattle.std.proofs.lemmas.List.Concat.{flat_map-cons}
use Rattle.std.proofs.lemmas.Nat.Bits.{bit_at-suc, bit_at_lowest}
use Rattle.vc_types.specs.Bits.{byte_bits, bits_of, digit_of}
use Rattle.vc_types.proofs.Digits.{halved}

pub bits_of-nil : bits_of [] ≡ []
unfolding bits_of
bits_of-nil = refl

pub bits_of-cons : (byte : ℕ) (bytes : List ℕ) → bits_of (byte ∷ bytes) ≡ byte_bits byte ++ bits_of bytes
unfolding bits_of
bits_of-cons byte bytes = flat_map-cons byte_bits byte bytes

-- the bit behind those of a byte that were read
bit_front : (used byte : ℕ) (more : List Bool) → used < 8 → drop used (byte_bits byte ++ more) ≡ eqb (bit_at byte (7 - used)) 1 ∷ drop (used + 1) (byte_bits byte ++ more)
unfolding byte_bits
bit_front zero byte more small = refl
bit_front (suc zero) byte more small = refl
bit_front (suc (suc zero)) byte more small = refl
bit_front (suc (suc (suc zero))) byte more small = refl
bit_front (suc (suc (suc (suc zero)))) byte more small = refl
bit_front (suc (suc (suc (suc (suc zero))))) byte more small = refl
bit_front (suc (suc (suc (suc (suc (suc zero)))))) byte more small = refl
bit_front (suc (suc (suc (suc (suc (suc (suc zero))))))) byte more small = refl
bit_front (suc (suc (suc (suc (suc (suc (suc (suc used)))))))) byte more small = absurd (omega arith)

-- the next bit of bytes of whose first some bits were read
pub bits_left-cons : (used byte : ℕ) (bytes : List ℕ) → used < 8 → drop used (bits_of (byte ∷ bytes)) ≡ eqb (bit_at byte (7 - used)) 1 ∷ drop (used + 1) (bits_of (byte ∷ bytes))
bits_left-cons used byte bytes small = ap (drop used) (bits_of-cons byte bytes) ∙ bit_front used byte (bits_of bytes) small ∙ ap (λ (bits : List Bool). eqb (bit_at byte (7 - used)) 1 ∷ drop (used + 1) bits) (sym (bits_of-cons byte bytes))

-- a byte has eight bits
pub length-byte_bits : (byte : ℕ) → length (byte_bits byte) ≡ 8
unfolding byte_bits
length-byte_bits byte = refl

-- a bit of a byte
pub bit_of_byte : (byte place : ℕ) → place < 8 → get_or (byte_bits byte) place true ≡ eqb (bit_at byte (7 - place)) 1
unfolding byte_bits
bit_of_byte byte zero small = refl
bit_of_byte byte (suc zero) small = refl
bit_of_byte byte (suc (suc zero)) small = refl
bit_of_byte byte (suc (suc (suc zero))) small = refl
bit_of_byte byte (suc (suc (suc (suc zero)))) small = refl
bit_of_byte byte (suc (suc (suc (suc (suc zero))))) small = refl
bit_of_byte byte (suc (suc (suc (suc (suc (suc zero)))))) small = refl
bit_of_byte byte (suc (suc (suc (suc (suc (suc (suc zero))))))) small = refl
bit_of_byte byte (suc (suc (suc (suc (suc (suc (suc (suc place)))))))) small = absurd (omega arith)

behind_byte : (byte : ℕ) (more : List Bool) → drop 8 (byte_bits byte ++ more) ≡ more
unfolding byte_bits
behind_byte byte more = refl

front_byte : (byte n : ℕ) (more : List Bool) → take (8 + n) (byte_bits byte ++ more) ≡ byte_bits byte ++ take n more
unfolding byte_bits
front_byte byte n more = take-append-add (byte_bits byte) more n

-- a byte read whole
pub drop_byte : (byte : ℕ) (bytes : List ℕ) → drop 8 (bits_of (byte ∷ bytes)) ≡ bits_of bytes
drop_byte byte bytes = ap (drop 8) (bits_of-cons byte bytes) ∙ behind_byte byte (bits_of bytes)

-- ---- the same at the bytes that a reader has

-- no bit is left where no byte is
pub none_left : (used : ℕ) (bytes : List ℕ) → length bytes ≡ 0 → drop used (bits_of bytes) ≡ []
none_left used [] none = ap (drop used) bits_of-nil ∙ drop-nil used
none_left used (byte ∷ bytes) none = absurd (omega arith)

-- the next bit
pub next_bit : (used : ℕ) (bytes : List ℕ) → used < 8 → 0 < length bytes → drop used (bits_of bytes) ≡ eqb (bit_at (get_or bytes 0 0) (7 - used)) 1 ∷ drop (used + 1) (bits_of bytes)
next_bit used [] small some = absurd (omega arith)
next_bit used (byte ∷ bytes) small some = bits_left-cons used byte bytes small

-- behind the last bit of a byte
pub after_byte : (used : ℕ) (bytes : List ℕ) → used ≡ 7 → 0 < length bytes → drop (used + 1) (bits_of bytes) ≡ bits_of (drop 1 bytes)
after_byte used [] last some = absurd (omega arith)
after_byte used (byte ∷ bytes) last some = rw last (drop_byte byte bytes)

-- ---- many bytes

pub length-bits_of : (bytes : List ℕ) → length (bits_of bytes) ≡ 8 * length bytes
length-bits_of [] = ap length bits_of-nil
length-bits_of (byte ∷ bytes) =
    let here : length (bits_of (byte ∷ bytes)) ≡ length (byte_bits byte) + length (bits_of bytes) = ap length (bits_of-cons byte bytes) ∙ length-append (byte_bits byte) (bits_of bytes) in
    omega (arith, here, length-byte_bits byte, length-bits_of bytes)

pub drop-bits_of : (n : ℕ) (bytes : List ℕ) → drop (8 * n) (bits_of bytes) ≡ bits_of (drop n bytes)
drop-bits_of zero bytes = refl
drop-bits_of (suc n) [] = ap (drop (8 * suc n)) bits_of-nil ∙ drop-nil (8 * suc n) ∙ sym bits_of-nil
drop-bits_of (suc n) (byte ∷ bytes) =
    let more : 8 * suc n ≡ 8 + 8 * n = omega arith in
    rw more (sym (drop-drop (8 * n) 8 (bits_of (byte ∷ bytes))) ∙ ap (drop (8 * n)) (drop_byte byte bytes) ∙ drop-bits_of n bytes)

pub take-bits_of : (n : ℕ) (bytes : List ℕ) → take (8 * n) (bits_of bytes) ≡ bits_of (take n bytes)
take-bits_of zero bytes = sym bits_of-nil
take-bits_of (suc n) [] = ap (take (8 * suc n)) bits_of-nil ∙ take-nil (8 * suc n) ∙ sym bits_of-nil
take-bits_of (suc n) (byte ∷ bytes) =
    let more : 8 * suc n ≡ 8 + 8 * n = omega arith in
    rw more (ap (take (8 + 8 * n)) (bits_of-cons byte bytes) ∙ front_byte byte (8 * n) (bits_of bytes) ∙ ap (λ (bits : List Bool). byte_bits byte ++ bits) (take-bits_of n bytes) ∙ sym (bits_of-cons byte (take n bytes)))

-- ---- a byte that is made bit by bit

bit_shifted : (number i : ℕ) (bit : Bool) → bit_at (2 * number + digit_of bit) (suc i) ≡ bit_at number i
bit_shifted number i bit = bit_at-suc (2 * number + digit_of bit) i ∙ ap (λ (n : ℕ). bit_at n i) (halved number bit)

bit_new : (number : ℕ) (bit : Bool) → eqb (bit_at (2 * number + digit_of bit) 0) 1 ≡ bit
bit_new number true = let e : bit_at (2 * number + 1) 0 ≡ 1 = bit_at_lowest (2 * number + 1) ∙ omega arith in rw e refl
bit_new number false = let e : bit_at (2 * number + 0) 0 ≡ 0 = bit_at_lowest (2 * number + 0) ∙ omega arith in rw e refl

-- one more bit pushes the others up
pub byte_bits-push : (number : ℕ) (bit : Bool) → byte_bits (2 * number + digit_of bit) ≡ drop 1 (byte_bits number) ++ bit ∷ []
unfolding byte_bits
byte_bits-push number bit = rw (bit_shifted number 6 bit, bit_shifted number 5 bit, bit_shifted number 4 bit, bit_shifted number 3 bit, bit_shifted number 2 bit, bit_shifted number 1 bit, bit_shifted number 0 bit, bit_new number bit) refl

-- one more byte
pub bits_of-push : (bytes : List ℕ) (byte : ℕ) → bits_of (bytes ++ byte ∷ []) ≡ bits_of bytes ++ byte_bits byte
unfolding bits_of
bits_of-push bytes byte = flat_map-append byte_bits bytes (byte ∷ []) ∙ ap (λ (bits : List Bool). flat_map byte_bits bytes ++ bits) (flat_map-cons byte_bits byte [] ∙ append-nil (byte_bits byte))

-- bytes behind bytes
pub bits_of-append : (xs ys : List ℕ) → bits_of (xs ++ ys) ≡ bits_of xs ++ bits_of ys
unfolding bits_of
bits_of-append xs ys = flat_map-append byte_bits xs ys

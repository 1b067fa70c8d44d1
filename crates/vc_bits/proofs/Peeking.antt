-- The next eight bits, from the two bytes that hold them.
use Rattle.std.proofs.Common.{◌≡◌, ℕ, ◌+◌, ◌-◌, ◌*◌, ◌/◌, ◌%◌, ◌^◌, ◌<◌, ◌≤◌, Bool, true, eqb, List, [], ◌∷◌, ◌++◌, length, get_or, drop, sym, ap, ◌∙◌, arith, inl, inr, leb}
use Rattle.std.specs.Int.{bit_at}
use Rattle.std.proofs.lemmas.Bool.{cases_lt, lt-leb, le-leb}
use Rattle.std.proofs.lemmas.Nat.{pow-add, div-add-mod'}
use Rattle.std.proofs.lemmas.Nat.Bits.{bit_at_cat_low, bit_at_cat_high, bit_at_ones}
use Rattle.std.proofs.lemmas.List.{get_or_append_left, drop-drop}
use Rattle.std.proofs.Math.Nat.{div-div-eq-div-mul, mul_comm}
use Rattle.std.proofs.Math.Seq.{get_or-append_right, drop-length}
use Rattle.std.proofs.Math.ListN.{drop_of_length-le}
use Rattle.vc_types.specs.Bits.{byte_bits, bits_of}
use Rattle.vc_types.specs.Bounded.{bounded, BeginsWith}
use Rattle.vc_types.proofs.BoundedCodes.{bounded-drop}
use Rattle.vc_types.proofs.Bits.{bit_of_byte, bits_of-nil, bits_of-cons, length-byte_bits, length-bits_of, drop-bits_of}

-- a one, where there is no byte
pub no_byte : (place : ℕ) → place < 8 → true ≡ eqb (bit_at 255 (7 - place)) 1
no_byte place small = sym (ap (λ (n : ℕ). eqb n 1) (bit_at_ones 8 (7 - place) (omega arith)))

-- a bit of the first byte, and of the second
bit_of_first : (bytes : List ℕ) (place : ℕ) → place < 8 → bounded (bits_of bytes) place ≡ eqb (bit_at (get_or bytes 0 255) (7 - place)) 1
bit_of_first [] place small = ap (λ (bits : List Bool). bounded bits place) bits_of-nil ∙ no_byte place small
bit_of_first (byte ∷ bytes) place small =
    ap (λ (bits : List Bool). bounded bits place) (bits_of-cons byte bytes) ∙ get_or_append_left (byte_bits byte) (bits_of bytes) true place (omega (arith, length-byte_bits byte)) ∙ bit_of_byte byte place small

bit_of_second : (bytes : List ℕ) (place : ℕ) → 8 ≤ place → place < 16 → bounded (bits_of bytes) place ≡ eqb (bit_at (get_or bytes 1 255) (15 - place)) 1
bit_of_second [] place le small =
    let same : 7 - (place - 8) ≡ 15 - place = omega arith in
    ap (λ (bits : List Bool). bounded bits place) bits_of-nil ∙ no_byte (place - 8) (omega arith) ∙ ap (λ (k : ℕ). eqb (bit_at 255 k) 1) same
bit_of_second (byte ∷ bytes) place le small =
    let same : 7 - (place - 8) ≡ 15 - place = omega arith in
    let eight : place - length (byte_bits byte) ≡ place - 8 = omega (arith, length-byte_bits byte) in
    let behind : length (byte_bits byte) ≤ place = omega (arith, length-byte_bits byte) in
    let second_part : bounded (byte_bits byte ++ bits_of bytes) place ≡ bounded (bits_of bytes) (place - length (byte_bits byte)) = get_or-append_right (byte_bits byte) (bits_of bytes) place true behind in
    ap (λ (bits : List Bool). bounded bits place) (bits_of-cons byte bytes) ∙ second_part
    ∙ ap (bounded (bits_of bytes)) eight ∙ bit_of_first bytes (place - 8) (omega arith) ∙ ap (λ (k : ℕ). eqb (bit_at (get_or bytes 0 255) k) 1) same

-- ---- the bits of a word of two bytes

pub low_bits_of : (n width place : ℕ) → place < width → bit_at (n % 2 ^ width) place ≡ bit_at n place
low_bits_of n width place small = sym (bit_at_cat_low (n / 2 ^ width) width (n % 2 ^ width) place small) ∙ ap (λ (m : ℕ). bit_at m place) (div-add-mod' n (2 ^ width))

pub high_bits_of : (n shift place : ℕ) → bit_at (n / 2 ^ shift) place ≡ bit_at n (place + shift)
high_bits_of n shift place = grind (arith, mul_comm, pow-add, div-div-eq-div-mul)

-- the place in the word of a bit that stands behind the used ones
bit_of_word : (first second used place : ℕ) → second < 2 ^ 8 → used < 8 → place < 8 → bit_at ((first * 256 + second) / 2 ^ (8 - used) % 256) (7 - place) ≡ bit_at (first * 2 ^ 8 + second) (15 - (used + place))
bit_of_word first second used place fits small within =
    let same : 7 - place + (8 - used) ≡ 15 - (used + place) = omega arith in
    low_bits_of ((first * 256 + second) / 2 ^ (8 - used)) 8 (7 - place) (omega arith) ∙ high_bits_of (first * 256 + second) (8 - used) (7 - place) ∙ ap (bit_at (first * 256 + second)) same

bit_of_either : (bytes : List ℕ) (place : ℕ) → get_or bytes 1 255 < 2 ^ 8 → place < 16 → bounded (bits_of bytes) place ≡ eqb (bit_at (get_or bytes 0 255 * 2 ^ 8 + get_or bytes 1 255) (15 - place)) 1
bit_of_either bytes place fits small =
    elim (cases_lt place 8) [
      | inl lt ↦
          let same : 15 - place - 8 ≡ 7 - place = omega arith in
          bit_of_first bytes place lt ∙ ap (λ (n : ℕ). eqb n 1) (sym (bit_at_cat_high (get_or bytes 0 255) 8 (get_or bytes 1 255) (15 - place) fits (omega arith) ∙ ap (bit_at (get_or bytes 0 255)) same))
      | inr le ↦ bit_of_second bytes place le small ∙ ap (λ (n : ℕ). eqb n 1) (sym (bit_at_cat_low (get_or bytes 0 255) 8 (get_or bytes 1 255) (15 - place) (omega arith)))
    ]

-- the eight bits behind the used ones
pub peeked : (bytes : List ℕ) (used first second : ℕ) → used < 8 → second < 256 → first ≡ get_or bytes 0 255 → second ≡ get_or bytes 1 255 → BeginsWith (drop used (bits_of bytes)) (byte_bits ((first * 256 + second) / 2 ^ (8 - used) % 256))
peeked bytes used first second small fits is_first is_second place lt =
    grind (arith, length-byte_bits, bit_of_either, bounded-drop, bit_of_word, bit_of_byte)

-- ---- behind some bits

-- within the bytes
pub skipped : (bytes : List ℕ) (used bits to : ℕ) → to ≡ used + bits → drop (to % 8) (bits_of (drop (to / 8) bytes)) ≡ drop bits (drop used (bits_of bytes))
skipped bytes used bits to is = grind (arith, drop-bits_of, drop-drop {A = Bool})

-- behind them
pub skipped_all : (bytes : List ℕ) (used bits to : ℕ) → to ≡ used + bits → length bytes ≤ to / 8 → drop 0 (bits_of (drop (length bytes) bytes)) ≡ drop bits (drop used (bits_of bytes))
skipped_all bytes used bits to is le =
    grind (arith, length-bits_of, drop-length, bits_of-nil, drop-drop, drop_of_length-le)

pub ruleset skips = (skipped, skipped_all)

-- ---- the first of the bits

-- the first bit of a byte is set where its number is at least 128
top_bit : (byte : ℕ) → byte < 256 → eqb (bit_at byte 7) 1 ≡ leb 128 byte
top_bit byte small = grind (arith, lt-leb, le-leb)

pub first_bit : (bits : List Bool) (byte : ℕ) → byte < 256 → BeginsWith bits (byte_bits byte) → leb 128 byte ≡ bounded bits 0
first_bit bits byte small begin = sym (begin 0 (omega (arith, length-byte_bits byte)) ∙ bit_of_byte byte 0 (omega arith) ∙ top_bit byte small)

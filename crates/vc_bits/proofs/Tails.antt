-- Bits behind whole bytes: the tail of a block.
use Rattle.std.proofs.Common.{◌≡◌, ℕ, ◌+◌, ◌-◌, ◌*◌, ◌/◌, ◌%◌, ◌^◌, ◌<◌, ◌≤◌, Bool, List, []}
use Rattle.std.proofs.Common.{◌∷◌, ◌++◌, length, get_or, take, drop, refl, sym, ap, ◌∙◌, arith}
use Rattle.std.proofs.Common.{append_assoc, append-nil, inl, inr}
use Rattle.std.proofs.Math.ListN.{drop_of_length-le}
use Rattle.std.proofs.Math.Seq.{drop-append-add, take-add, take-append-le, take-append_seam}
use Rattle.std.proofs.lemmas.Bool.{cases_lt}
use Rattle.std.proofs.lemmas.List.{drop-append-le, drop-take}
use Rattle.vc_types.specs.Bits.{byte_bits, bits_of}
use Rattle.vc_types.proofs.Bits.{bits_of-nil, bits_of-cons, length-byte_bits, length-bits_of}
use Rattle.vc_types.proofs.Bits.{take-bits_of, drop-bits_of}
use Rattle.vc_bits.specs.Bits.{word_bits}
use Rattle.vc_bits.proofs.Waiting.{last_bits}
use Rattle.vc_bits.proofs.Words.{byte_is_word, drop-word_bits, length-word_bits, split}
use Rattle.vc_bits.proofs.Words.{skipped_past, skipped_word}

-- ---- in a block

-- without one
pub no_tail : (bits : List Bool) → bits ++ word_bits 0 0 ≡ bits
unfolding word_bits
no_tail bits = append-nil bits

-- behind bits that were read into a word
pub behind_word : (count word : ℕ) (rest : List ℕ) (bits tail : List Bool)
    → word_bits count word ++ bits_of rest ≡ bits
    → word_bits count word ++ (bits_of rest ++ tail) ≡ bits ++ tail
behind_word count word rest bits tail is =
    sym (append_assoc (word_bits count word) (bits_of rest) tail)
    ∙ ap (λ (front : List Bool). front ++ tail) is

-- the word takes it, where no bytes are between
pub taken : (count word last number next tail_bits tail : ℕ) (rest : List ℕ) → count < 12 → rest ≡ []
    → last ≡ tail_bits → tail_bits < 8 → number ≡ tail
    → word_bits (count + last) next
    ≡ word_bits count word ++ word_bits last (number % (1 * 2 ^ last % 2 ^ 64))
    → word_bits (count + last) next ++ (bits_of rest ++ word_bits 0 tail)
    ≡ word_bits count word ++ (bits_of rest ++ word_bits tail_bits tail)
unfolding word_bits
taken count word last number next tail_bits tail rest few none same_bits small same is =
    rw (none, bits_of-nil, ← same_bits, ← same) (append-nil (word_bits (count + last) next) ∙ is
    ∙ ap (λ (bits : List Bool). word_bits count word ++ bits) (last_bits last number (omega arith)))

-- some bits of the word are skipped
pub within_word : (count word n left next : ℕ) (bytes rest : List ℕ) (tail : List Bool) → n ≤ count
    → word_bits left next ++ bits_of rest ≡ word_bits (count - n) word ++ bits_of bytes
    → word_bits left next ++ (bits_of rest ++ tail) ≡ drop n (word_bits count word ++ (bits_of bytes ++ tail))
within_word count word n left next bytes rest tail le is =
    behind_word left next rest (word_bits (count - n) word ++ bits_of bytes) tail is
    ∙ append_assoc (word_bits (count - n) word) (bits_of bytes) tail
    ∙ skipped_word count word n (bits_of bytes ++ tail) le

-- some of bytes and a tail
behind_both : (bytes : List ℕ) (n tail_bits tail : ℕ)
    → drop n (bits_of bytes) ++ word_bits (tail_bits - (n - 8 * length bytes)) tail
    ≡ drop n (bits_of bytes ++ word_bits tail_bits tail)
behind_both bytes n tail_bits tail =
    let bits = bits_of bytes in
    let more = word_bits tail_bits tail in
    let past = n - 8 * length bytes in
    elim (cases_lt n (8 * length bytes)) [
      | inl lt ↦
          let none : tail_bits - past ≡ tail_bits = omega arith in
          ap (λ (k : ℕ). drop n bits ++ word_bits k tail) none
          ∙ sym (drop-append-le n bits more (omega (arith, length-bits_of bytes)))
      | inr ge ↦
          let whole : length bits + past ≡ n = omega (arith, length-bits_of bytes) in
          let none : drop n bits ≡ [] = drop_of_length-le bits (omega (arith, length-bits_of bytes)) in
          rw none
          (sym (drop-word_bits past tail_bits tail)
          ∙ sym (drop-append-add bits more past) ∙ ap (λ (k : ℕ). drop k (bits ++ more)) whole)
    ]

-- all of the word, and some of these
pub past_word : (count word n past left next tail_bits tail kept : ℕ) (bytes rest : List ℕ) → count < n
    → past ≡ n - count → kept ≡ tail_bits - (past - 8 * length bytes)
    → word_bits left next ++ bits_of rest ≡ drop past (bits_of bytes)
    → word_bits left next ++ (bits_of rest ++ word_bits kept tail)
    ≡ drop n (word_bits count word ++ (bits_of bytes ++ word_bits tail_bits tail))
past_word count word n past left next tail_bits tail kept bytes rest lt far is_kept is =
    let more = bits_of bytes ++ word_bits tail_bits tail in
    behind_word left next rest (drop past (bits_of bytes)) (word_bits kept tail) is
    ∙ ap (λ (k : ℕ). drop past (bits_of bytes) ++ word_bits k tail) is_kept
    ∙ behind_both bytes past tail_bits tail ∙ ap (λ (k : ℕ). drop k more) far
    ∙ skipped_past count word n more lt

-- ---- of what is read

-- the first bits of a byte
pub first_of : (bytes : List ℕ) (count : ℕ) → count < 8 → 0 < length bytes
    → word_bits count (get_or bytes 0 0 / 2 ^ (8 - count)) ≡ take count (bits_of bytes)
first_of [] count few some = absurd (omega arith)
first_of (byte ∷ bytes) count few some =
    let first = word_bits count (byte / 2 ^ (8 - count)) in
    let last = word_bits (8 - count) byte in
    let eight : 8 ≡ count + (8 - count) = omega arith in
    let parts : byte_bits byte ≡ first ++ last =
    sym (byte_is_word byte) ∙ ap (λ (n : ℕ). word_bits n byte) eight ∙ split count (8 - count) byte in
    let long : length first ≡ count = length-word_bits count (byte / 2 ^ (8 - count)) in
    sym (ap (take count) (bits_of-cons byte bytes)
    ∙ take-append-le count (byte_bits byte) (bits_of bytes) (omega (arith, length-byte_bits byte))
    ∙ ap (take count) parts ∙ ap (λ (n : ℕ). take n (first ++ last)) (sym long) ∙ take-append_seam first last)

pub none_of : (count : ℕ) (bits : List Bool) → count ≡ 0 → word_bits count 0 ≡ take count bits
unfolding word_bits
none_of count bits none = rw none refl

-- the next bits behind the used ones, by the bytes that they are in
part_of : (bytes : List ℕ) (used n to : ℕ) → to ≡ used + n
    → drop used (bits_of (take (to / 8) bytes) ++ take (to % 8) (bits_of (drop (to / 8) bytes)))
    ≡ take n (drop used (bits_of bytes))
part_of bytes used n to is =
    let bits = bits_of bytes in
    let whole : 8 * (to / 8) + to % 8 ≡ used + n = omega arith in
    let parts = take-add (8 * (to / 8)) (to % 8) bits in
    rw (← take-bits_of (to / 8) bytes, ← drop-bits_of (to / 8) bytes, ← parts, whole) (drop-take used n bits)

-- and by a block of these
pub part_read : (bytes front after : List ℕ) (used n to skipped word : ℕ) (left block new : List Bool)
    → to ≡ used + n → front ≡ take (to / 8) bytes → after ≡ drop (to / 8) bytes
    → word_bits (to % 8) word ≡ take (to % 8) (bits_of after)
    → block ≡ bits_of front ++ word_bits (to % 8) word → skipped ≡ used → new ≡ drop skipped block
    → drop used (bits_of bytes) ≡ left → new ≡ take n left
part_read bytes front after used n to skip word left block new is fronts afters words blocks same result old =
    rw (result, same, blocks, words, fronts, afters, ← old) (part_of bytes used n to is)

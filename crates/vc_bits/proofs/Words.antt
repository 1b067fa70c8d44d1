-- The last bits of a word.
use Rattle.std.proofs.Common.{rules, ◌≡◌, ℕ, zero, suc, ◌+◌, ◌-◌, ◌*◌, ◌/◌, ◌%◌, ◌^◌, ◌<◌, ◌≤◌, Bool, true, eqb, List, [], ◌∷◌, ◌++◌, length, get_or, drop, refl, sym, ap, ◌∙◌, arith, mod-lt, append_assoc, append-nil, zero-add, suc-add, length-drop, replicate}
use Rattle.std.specs.Int.{bit_at}
use Rattle.std.proofs.Math.Seq.{drop-append-add, drop-length}
use Rattle.std.proofs.Math.ListN.{drop_of_length-le}
use Rattle.std.proofs.lemmas.Nat.{div-mul-add, pow_pos, pow-add, mul-add-lt, one_shl}
use Rattle.std.proofs.lemmas.Nat.Bits.{bit_at_cat_low, bit_at_ones}
use Rattle.std.proofs.lemmas.List.{get_or_append_left, drop-drop, drop-append-le}
use Rattle.vc_types.specs.Bits.{byte_bits, bits_of}
use Rattle.vc_types.specs.Bounded.{bounded, BeginsWith}
use Rattle.vc_types.proofs.Bits.{bit_of_byte, bits_of-nil, bits_of-cons, length-byte_bits, length-bits_of, drop-bits_of}
use Rattle.vc_types.proofs.BoundedCodes.{same_ones}
use Rattle.vc_bits.specs.Bits.{word_bits}
use Rattle.vc_bits.specs.Inside.{low_bits}
use Rattle.vc_bits.proofs.Peeking.{low_bits_of, high_bits_of, no_byte}

pub length-word_bits : (count word : ℕ) → length (word_bits count word) ≡ count
unfolding word_bits
length-word_bits zero word = refl
length-word_bits (suc count) word = ap suc (length-word_bits count word)

-- a bit of a word
bit_of_word_bits : (count word place : ℕ) → place < count → get_or (word_bits count word) place true ≡ eqb (bit_at word (count - 1 - place)) 1
unfolding word_bits
bit_of_word_bits zero word place lt = absurd (omega arith)
bit_of_word_bits (suc count) word zero lt = let same : count ≡ suc count - 1 - 0 = omega arith in ap (λ (n : ℕ). eqb (bit_at word n) 1) same
bit_of_word_bits (suc count) word (suc place) lt =
    let same : count - 1 - place ≡ suc count - 1 - suc place = omega arith in
    bit_of_word_bits count word place (omega arith) ∙ ap (λ (n : ℕ). eqb (bit_at word n) 1) same

-- fewer of its last bits
pub drop-word_bits : (n count word : ℕ) → drop n (word_bits count word) ≡ word_bits (count - n) word
unfolding word_bits
drop-word_bits zero count word = let same : count ≡ count - 0 = omega arith in ap (λ (k : ℕ). word_bits k word) same
drop-word_bits (suc n) zero word = let none : 0 ≡ 0 - suc n = omega arith in ap (λ (k : ℕ). word_bits k word) none
drop-word_bits (suc n) (suc count) word =
    let same : count - n ≡ suc count - suc n = omega arith in
    drop-word_bits n count word ∙ ap (λ (k : ℕ). word_bits k word) same

-- a byte is a word
pub byte_is_word : (byte : ℕ) → word_bits 8 byte ≡ byte_bits byte
unfolding word_bits byte_bits
byte_is_word byte = refl

-- words with the same last bits
pub same_word_bits : (count first second : ℕ) → ((i : ℕ) → i < count → bit_at first i ≡ bit_at second i) → word_bits count first ≡ word_bits count second
unfolding word_bits
same_word_bits zero first second same = refl
same_word_bits (suc count) first second same =
    ap (λ (n : ℕ). eqb n 1 ∷ word_bits count first) (same count (omega arith)) ∙ ap (λ (bits : List Bool). eqb (bit_at second count) 1 ∷ bits) (same_word_bits count first second (λ i lt. same i (omega arith)))

-- the first of its last bits, and the others
pub split : (count n word : ℕ) → word_bits (count + n) word ≡ word_bits count (word / 2 ^ n) ++ word_bits n word
unfolding word_bits
split zero n word = ap (λ (k : ℕ). word_bits k word) (zero-add n)
split (suc count) n word =
    ap (λ (k : ℕ). word_bits k word) (suc-add count n) ∙ ap (λ (b : ℕ). eqb b 1 ∷ word_bits (count + n) word) (sym (high_bits_of word n count))
    ∙ ap (λ (bits : List Bool). eqb (bit_at (word / 2 ^ n) count) 1 ∷ bits) (split count n word)

-- one more byte
word_and_byte : (count word byte : ℕ) → byte < 2 ^ 8 → word_bits (count + 8) (word * 2 ^ 8 + byte) ≡ word_bits count word ++ byte_bits byte
word_and_byte count word byte small =
    split count 8 (word * 2 ^ 8 + byte) ∙ ap (λ (n : ℕ). word_bits count n ++ word_bits 8 (word * 2 ^ 8 + byte)) (div-mul-add word (2 ^ 8) byte small)
    ∙ ap (λ (bits : List Bool). word_bits count word ++ bits) (same_word_bits 8 (word * 2 ^ 8 + byte) byte (λ i lt. bit_at_cat_low word 8 byte i lt) ∙ byte_is_word byte)

-- a byte is added to a word, whose bits stay the last ones
byte_added : (count word byte next : ℕ) (bytes : List ℕ) → count ≤ 56 → byte < 256 → next ≡ word % 2 ^ 56 * 256 + byte
    → word_bits (count + 8) next ++ bits_of bytes ≡ word_bits count word ++ bits_of (byte ∷ bytes)
byte_added count word byte next bytes le small is =
    let kept : word_bits count (word % 2 ^ 56) ≡ word_bits count word = same_word_bits count (word % 2 ^ 56) word (λ i lt. low_bits_of word 56 i (omega arith)) in
    ap (λ (n : ℕ). word_bits (count + 8) n ++ bits_of bytes) is ∙ ap (λ (bits : List Bool). bits ++ bits_of bytes) (word_and_byte count (word % 2 ^ 56) byte small ∙ ap (λ (bits : List Bool). bits ++ byte_bits byte) kept)
    ∙ append_assoc (word_bits count word) (byte_bits byte) (bits_of bytes) ∙ ap (λ (bits : List Bool). word_bits count word ++ bits) (sym (bits_of-cons byte bytes))

pub byte_moved : (count word next : ℕ) (bytes after : List ℕ) → count ≤ 56 → 0 < length bytes → get_or bytes 0 0 < 256 → next ≡ word % 2 ^ 56 * 256 + get_or bytes 0 0 → after ≡ drop 1 bytes
    → word_bits (count + 8) next ++ bits_of after ≡ word_bits count word ++ bits_of bytes
byte_moved count word next [] after le some small is behind = absurd (omega arith)
byte_moved count word next (byte ∷ bytes) after le some small is behind = ap (λ (rest : List ℕ). word_bits (count + 8) next ++ bits_of rest) behind ∙ byte_added count word byte next bytes le small is

-- ---- peeking

-- at a bit of the word
at_word : (count word place : ℕ) (bits : List Bool) → place < count → bounded (word_bits count word ++ bits) place ≡ eqb (bit_at word (count - 1 - place)) 1
at_word count word place bits lt = get_or_append_left (word_bits count word) bits true place (omega (arith, length-word_bits count word)) ∙ bit_of_word_bits count word place lt

-- at eight of its bits
pub peeked_word : (count word : ℕ) (bits : List Bool) → 8 ≤ count → BeginsWith (word_bits count word ++ bits) (byte_bits (word / 2 ^ (count - 8) % 256))
peeked_word count word bits many place lt =
    let within : place < 8 = omega (arith, length-byte_bits (word / 2 ^ (count - 8) % 256)) in
    let same : 7 - place + (count - 8) ≡ count - 1 - place = omega arith in
    at_word count word place bits (omega arith) ∙ ap (λ (n : ℕ). eqb n 1) (sym (low_bits_of (word / 2 ^ (count - 8)) 8 (7 - place) (omega arith) ∙ high_bits_of word (count - 8) (7 - place) ∙ ap (bit_at word) same))
    ∙ sym (bit_of_byte (word / 2 ^ (count - 8) % 256) place within)

-- at fewer, and ones
low_word : (count word : ℕ) → count ≤ 8 → low_bits count (word % 2 ^ count) ≡ word_bits count word
low_word count word small =
    let same : 8 - (8 - count) ≡ count = omega arith in
    ap (drop (8 - count)) (sym (byte_is_word (word % 2 ^ count))) ∙ drop-word_bits (8 - count) 8 (word % 2 ^ count) ∙ ap (λ (n : ℕ). word_bits n (word % 2 ^ count)) same
    ∙ same_word_bits count (word % 2 ^ count) word (λ i lt. low_bits_of word count i lt)

-- where neither bytes nor a tail are behind
none_behind : (bits : List Bool) (bytes : List ℕ) (tail_bits tail : ℕ) → bytes ≡ [] → tail_bits ≡ 0
    → bits ++ (bits_of bytes ++ word_bits tail_bits tail) ≡ bits
unfolding word_bits
none_behind bits bytes tail_bits tail none few = rw (none, few, bits_of-nil) (append-nil bits)

pub peeked_ones : (count word byte : ℕ) (bytes : List ℕ) (tail_bits tail : ℕ) → count < 8 → bytes ≡ [] → tail_bits ≡ 0
    → byte_bits byte ≡ low_bits count (word % 2 ^ count) ++ replicate (8 - count) true
    → BeginsWith (word_bits count word ++ (bits_of bytes ++ word_bits tail_bits tail)) (byte_bits byte)
peeked_ones count word byte bytes tail_bits tail small none few is place lt =
    let bits = word_bits count word in
    let here = none_behind bits bytes tail_bits tail none few in
    let filled : byte_bits byte ≡ bits ++ replicate (8 - count) true = is ∙ ap (λ (front : List Bool). front ++ replicate (8 - count) true) (low_word count word (omega arith)) in
    ap (λ (xs : List Bool). bounded xs place) here ∙ (same_ones bits (8 - count)).at place ∙ ap (λ (xs : List Bool). bounded xs place) (sym filled)

pub peeked_end : (count word : ℕ) (bytes : List ℕ) (tail_bits tail : ℕ) → count ≤ 0 → bytes ≡ [] → tail_bits ≡ 0
    → BeginsWith (word_bits count word ++ (bits_of bytes ++ word_bits tail_bits tail)) (byte_bits 255)
unfolding word_bits
peeked_end count word bytes tail_bits tail small none few place lt =
    grind (arith, length-byte_bits, none_behind, no_byte, bit_of_byte)

pub ruleset peeks = (peeked_word, peeked_ones, peeked_end)

-- ---- skipping

-- within the word
pub skipped_word : (count word n : ℕ) (bits : List Bool) → n ≤ count → word_bits (count - n) word ++ bits ≡ drop n (word_bits count word ++ bits)
skipped_word count word n bits le =
    sym (drop-append-le n (word_bits count word) bits (omega (arith, length-word_bits count word)) ∙ ap (λ (front : List Bool). front ++ bits) (drop-word_bits n count word))

-- and behind it
pub skipped_past : (count word n : ℕ) (bits : List Bool) → count < n → drop (n - count) bits ≡ drop n (word_bits count word ++ bits)
skipped_past count word n bits lt =
    let parts : length (word_bits count word) + (n - count) ≡ n = omega (arith, length-word_bits count word) in
    sym (ap (λ (k : ℕ). drop k (word_bits count word ++ bits)) (sym parts) ∙ drop-append-add (word_bits count word) bits (n - count))

-- no bit of a word
pub word_none : (word : ℕ) (bits : List Bool) → word_bits 0 word ++ bits ≡ bits
unfolding word_bits
word_none word bits = refl

pub none_yet : (bytes : List ℕ) → word_bits 0 0 ++ bits_of bytes ≡ bits_of bytes
none_yet bytes = word_none 0 (bits_of bytes)

-- behind all bytes
pub skipped_all : (bytes : List ℕ) (n : ℕ) → length bytes ≤ n / 8 → word_bits 0 0 ++ bits_of (drop (length bytes) bytes) ≡ drop n (bits_of bytes)
skipped_all bytes n le = grind (arith, length-bits_of, none_yet, drop-length, bits_of-nil, drop_of_length-le)

-- behind some bytes and bits of the next
behind_bits : (bytes : List ℕ) (n : ℕ) → 0 < length bytes → n ≤ 8 → word_bits (8 - n) (get_or bytes 0 0) ++ bits_of (drop 1 bytes) ≡ drop n (bits_of bytes)
behind_bits bytes n some few = grind (arith, skipped_word, byte_is_word, bits_of-cons)

pub skipped_bytes : (bytes : List ℕ) (n : ℕ) → n / 8 < length bytes → word_bits (8 - n % 8) (get_or (drop (n / 8) bytes) 0 0) ++ bits_of (drop 1 (drop (n / 8) bytes)) ≡ drop n (bits_of bytes)
skipped_bytes bytes n lt =
    let whole : 8 * (n / 8) + n % 8 ≡ n = omega arith in
    behind_bits (drop (n / 8) bytes) (n % 8) (omega (arith, length-drop (n / 8) bytes)) (omega arith) ∙ ap (drop (n % 8)) (sym (drop-bits_of (n / 8) bytes)) ∙ drop-drop (n % 8) (8 * (n / 8)) (bits_of bytes) ∙ ap (λ (k : ℕ). drop k (bits_of bytes)) whole

pub ruleset behinds = (none_yet, skipped_all, skipped_bytes)

-- ---- twelve bits

pub peeked_twelve : (count word : ℕ) (bits : List Bool) → 12 ≤ count → BeginsWith (word_bits count word ++ bits) (word_bits 12 (word / 2 ^ (count - 12) % 2 ^ 12))
peeked_twelve count word bits many place lt =
    let within : place < 12 = omega (arith, length-word_bits 12 (word / 2 ^ (count - 12) % 2 ^ 12)) in
    let same : 11 - place + (count - 12) ≡ count - 1 - place = omega arith in
    let there : 12 - 1 - place ≡ 11 - place = omega arith in
    at_word count word place bits (omega arith)
    ∙ ap (λ (n : ℕ). eqb n 1) (sym (low_bits_of (word / 2 ^ (count - 12)) 12 (11 - place) (omega arith) ∙ high_bits_of word (count - 12) (11 - place) ∙ ap (bit_at word) same))
    ∙ sym (bit_of_word_bits 12 (word / 2 ^ (count - 12) % 2 ^ 12) place within)

-- ones alone
first_ones : (n k : ℕ) → k ≤ n → word_bits k (2 ^ n - 1) ≡ replicate k true
unfolding word_bits
first_ones n zero le = refl
first_ones n (suc k) le =
    ap (λ (b : ℕ). eqb b 1 ∷ word_bits k (2 ^ n - 1)) (bit_at_ones n k (omega arith)) ∙ ap (λ (bits : List Bool). true ∷ bits) (first_ones n k (omega arith))

pub only_ones : (n : ℕ) → word_bits n (2 ^ n - 1) ≡ replicate n true
only_ones n = first_ones n n (omega arith)

-- the last bits of a word, and ones
pub ones_behind : (count n word : ℕ) → word_bits (count + n) (word % 2 ^ count * 2 ^ n + (2 ^ n - 1)) ≡ word_bits count word ++ replicate n true
ones_behind count n word =
    let below : 2 ^ n - 1 < 2 ^ n = omega (arith, pow_pos n) in
    split count n (word % 2 ^ count * 2 ^ n + (2 ^ n - 1))
    ∙ ap (λ (k : ℕ). word_bits count k ++ word_bits n (word % 2 ^ count * 2 ^ n + (2 ^ n - 1))) (div-mul-add (word % 2 ^ count) (2 ^ n) (2 ^ n - 1) below)
    ∙ ap (λ (bits : List Bool). bits ++ word_bits n (word % 2 ^ count * 2 ^ n + (2 ^ n - 1))) (same_word_bits count (word % 2 ^ count) word (λ i lt. low_bits_of word count i lt))
    ∙ ap (λ (bits : List Bool). word_bits count word ++ bits) (same_word_bits n (word % 2 ^ count * 2 ^ n + (2 ^ n - 1)) (2 ^ n - 1) (λ i lt. bit_at_cat_low (word % 2 ^ count) n (2 ^ n - 1) i lt) ∙ only_ones n)

-- they stay below a power
filled_below : (count word : ℕ) → count < 12 → word % 2 ^ count * 2 ^ (12 - count) + (2 ^ (12 - count) - 1) < 2 ^ 12
filled_below count word small =
    let n = 12 - count in
    let whole : 2 ^ n * 2 ^ count ≡ 2 ^ 12 = sym (pow-add 2 n count) ∙ (let e : n + count ≡ 12 = omega arith in ap (λ (k : ℕ). 2 ^ k) e) in
    let last : 2 ^ n - 1 < 2 ^ n = omega (arith, pow_pos n) in
    let below : word % 2 ^ count * 2 ^ n + (2 ^ n - 1) < 2 ^ n * 2 ^ count = mul-add-lt (word % 2 ^ count) (2 ^ n) (2 ^ n - 1) (2 ^ count) (mod-lt word (pow_pos count)) last in
    omega (arith, below, whole)

-- the word that is reckoned in the width of its parts
pub filled_is : (count word : ℕ) → count < 12 → word % (1 * 2 ^ count % 2 ^ 64) * 2 ^ (12 - count) % 2 ^ 16 + (1 * 2 ^ (12 - count) % 2 ^ 16 - 1) ≡ word % 2 ^ count * 2 ^ (12 - count) + (2 ^ (12 - count) - 1)
filled_is count word small = search (rules, one_shl, filled_below)

pub filled_small : (count word : ℕ) → count < 12 → word % (1 * 2 ^ count % 2 ^ 64) * 2 ^ (12 - count) % 2 ^ 16 + (1 * 2 ^ (12 - count) % 2 ^ 16 - 1) < 4096
filled_small count word small = omega (arith, filled_is count word small, filled_below count word small)

pub filled_bits : (count word : ℕ) → count < 12 → word_bits 12 (word % (1 * 2 ^ count % 2 ^ 64) * 2 ^ (12 - count) % 2 ^ 16 + (1 * 2 ^ (12 - count) % 2 ^ 16 - 1)) ≡ word_bits count word ++ replicate (12 - count) true
filled_bits count word small =
    let long : 12 ≡ count + (12 - count) = omega arith in
    ap (word_bits 12) (filled_is count word small) ∙ ap (λ (n : ℕ). word_bits n (word % 2 ^ count * 2 ^ (12 - count) + (2 ^ (12 - count) - 1))) long ∙ ones_behind count (12 - count) word

pub peeked_filled : (count word number : ℕ) (bytes : List ℕ) (tail_bits tail : ℕ) → bytes ≡ [] → tail_bits ≡ 0
    → word_bits 12 number ≡ word_bits count word ++ replicate (12 - count) true
    → BeginsWith (word_bits count word ++ (bits_of bytes ++ word_bits tail_bits tail)) (word_bits 12 number)
peeked_filled count word number bytes tail_bits tail none few is place lt =
    let bits = word_bits count word in
    let here = none_behind bits bytes tail_bits tail none few in
    ap (λ (xs : List Bool). bounded xs place) here ∙ (same_ones bits (12 - count)).at place ∙ ap (λ (xs : List Bool). bounded xs place) (sym is)

-- ---- four bytes

pub four_added : (count word b0 b1 b2 b3 next : ℕ) (bytes : List ℕ) → count ≤ 32 → b0 < 256 → b1 < 256 → b2 < 256 → b3 < 256
    → next ≡ word % 2 ^ 32 * 2 ^ 32 + (((b0 * 256 + b1) * 256 + b2) * 256 + b3)
    → word_bits (count + 32) next ++ bits_of bytes ≡ word_bits count word ++ bits_of (b0 ∷ b1 ∷ b2 ∷ b3 ∷ bytes)
four_added count word b0 b1 b2 b3 next bytes le s0 s1 s2 s3 is =
    let kept : word_bits count (word % 2 ^ 32) ≡ word_bits count word = same_word_bits count (word % 2 ^ 32) word (λ i lt. low_bits_of word 32 i (omega arith)) in
    let w = word % 2 ^ 32 in
    let whole : next ≡ (((w * 2 ^ 8 + b0) * 2 ^ 8 + b1) * 2 ^ 8 + b2) * 2 ^ 8 + b3 = omega (arith, is) in
    let long : count + 32 ≡ count + 8 + 8 + 8 + 8 = omega arith in
    let one = word_and_byte count w b0 s0 in
    let two = word_and_byte (count + 8) (w * 2 ^ 8 + b0) b1 s1 in
    let three = word_and_byte (count + 8 + 8) ((w * 2 ^ 8 + b0) * 2 ^ 8 + b1) b2 s2 in
    let four = word_and_byte (count + 8 + 8 + 8) (((w * 2 ^ 8 + b0) * 2 ^ 8 + b1) * 2 ^ 8 + b2) b3 s3 in
    let all : word_bits (count + 32) next ≡ (((word_bits count word ++ byte_bits b0) ++ byte_bits b1) ++ byte_bits b2) ++ byte_bits b3 =
    ap (λ (n : ℕ). word_bits n next) long ∙ ap (word_bits (count + 8 + 8 + 8 + 8)) whole ∙ four
    ∙ ap (λ (xs : List Bool). xs ++ byte_bits b3) (three ∙ ap (λ (xs : List Bool). xs ++ byte_bits b2) (two ∙ ap (λ (xs : List Bool). xs ++ byte_bits b1) (one ∙ ap (λ (xs : List Bool). xs ++ byte_bits b0) kept))) in
    let front = word_bits count word in
    ap (λ (xs : List Bool). xs ++ bits_of bytes) all
    ∙ append_assoc (((front ++ byte_bits b0) ++ byte_bits b1) ++ byte_bits b2) (byte_bits b3) (bits_of bytes)
    ∙ ap (λ (xs : List Bool). (((front ++ byte_bits b0) ++ byte_bits b1) ++ byte_bits b2) ++ xs) (sym (bits_of-cons b3 bytes))
    ∙ append_assoc ((front ++ byte_bits b0) ++ byte_bits b1) (byte_bits b2) (bits_of (b3 ∷ bytes))
    ∙ ap (λ (xs : List Bool). ((front ++ byte_bits b0) ++ byte_bits b1) ++ xs) (sym (bits_of-cons b2 (b3 ∷ bytes)))
    ∙ append_assoc (front ++ byte_bits b0) (byte_bits b1) (bits_of (b2 ∷ b3 ∷ bytes))
    ∙ ap (λ (xs : List Bool). (front ++ byte_bits b0) ++ xs) (sym (bits_of-cons b1 (b2 ∷ b3 ∷ bytes)))
    ∙ append_assoc front (byte_bits b0) (bits_of (b1 ∷ b2 ∷ b3 ∷ bytes))
    ∙ ap (λ (xs : List Bool). front ++ xs) (sym (bits_of-cons b0 (b1 ∷ b2 ∷ b3 ∷ bytes)))

pub four_moved : (count word next : ℕ) (bytes after : List ℕ) → count ≤ 32 → 4 ≤ length bytes → ((i : ℕ) → get_or bytes i 0 < 256)
    → next ≡ word % 2 ^ 32 * 2 ^ 32 + (((get_or bytes 0 0 * 256 + get_or bytes 1 0) * 256 + get_or bytes 2 0) * 256 + get_or bytes 3 0) → after ≡ drop 4 bytes
    → word_bits (count + 32) next ++ bits_of after ≡ word_bits count word ++ bits_of bytes
four_moved count word next bytes after few many small is rest = grind (arith, four_added)

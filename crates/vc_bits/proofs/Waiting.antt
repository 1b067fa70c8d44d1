-- Bits that wait in a word until they make bytes.
use Rattle.std.proofs.Common.{◌≡◌, ℕ, zero, suc, ◌+◌, ◌-◌, ◌*◌, ◌/◌, ◌%◌, ◌^◌, ◌<◌, ◌≤◌, Bool, true, false, List, [], ◌∷◌, ◌++◌, length, take, refl, sym, ap, subst, ◌∙◌, arith, add-zero, mod-lt, append_assoc, append-nil, length-append, replicate, eqb}
use mir.Val.{bool_byte}
use Rattle.std.proofs.lemmas.Nat.{pow-add, pow_pos, div-mul-add, mod-mul-add, mul-add-lt, one_shl}
use Rattle.std.proofs.lemmas.List.{replicate-append-replicate, take-take}
use Rattle.std.proofs.lemmas.Nat.Bits.{bit_at_cat_low, bit_at-zero}
use Rattle.std.proofs.Math.Arith.{mod-mul}
use Rattle.std.proofs.Math.Nat.{mul_comm, pow-le-pow_right, mod-eq_of_lt}
use Rattle.std.proofs.Math.Seq.{take-append_seam}
use Rattle.vc_types.specs.Bits.{byte_bits, bits_of}
use Rattle.vc_types.proofs.Bits.{bits_of-push, bits_of-nil, length-bits_of, take-bits_of}
use Rattle.vc_bits.specs.Bits.{to_edge, word_bits}
use Rattle.vc_bits.proofs.Peeking.{low_bits_of}
use Rattle.vc_bits.proofs.Words.{length-word_bits, same_word_bits, byte_is_word, split}

-- no bit at all
pub starts_empty : bits_of [] ++ word_bits 0 0 ≡ []
unfolding word_bits
starts_empty = append-nil (bits_of []) ∙ bits_of-nil

-- none are left
pub no_bits : (bytes : List ℕ) (count word : ℕ) → count ≡ 0 → bits_of bytes ++ word_bits count word ≡ bits_of bytes
unfolding word_bits
no_bits bytes count word none = rw none (append-nil (bits_of bytes))

pub ruleset starts = (starts_empty)

-- bits behind bits
pub joined_bits : (have word count number : ℕ) → number < 2 ^ count → word_bits (have + count) (word * 2 ^ count + number) ≡ word_bits have word ++ word_bits count number
joined_bits have word count number small = grind (arith, split, div-mul-add, same_word_bits, bit_at_cat_low)

-- both fit
pub joined_fits : (have word count number : ℕ) → word < 2 ^ have → number < 2 ^ count → word * 2 ^ count + number < 2 ^ (have + count)
joined_fits have word count number fits small =
    omega (arith, mul-add-lt word (2 ^ count) number (2 ^ have) fits small, pow-add 2 have count, mul_comm (2 ^ have) (2 ^ count))

-- a word that is moved up loses bits where there is no place for them
pub moved : (word count : ℕ) → count ≤ 64 → word * 2 ^ count % 2 ^ 64 ≡ word % 2 ^ (64 - count) * 2 ^ count
moved word count within =
    let parts : 64 - count + count ≡ 64 = omega arith in
    let power : 2 ^ 64 ≡ 2 ^ (64 - count) * 2 ^ count = ap (λ (n : ℕ). 2 ^ n) (sym parts) ∙ pow-add 2 (64 - count) count in
    let whole : word * 2 ^ count / 2 ^ count ≡ word = ap (λ (n : ℕ). n / 2 ^ count) (sym (add-zero (word * 2 ^ count))) ∙ div-mul-add word (2 ^ count) 0 (pow_pos count) in
    let none : word * 2 ^ count % 2 ^ count ≡ 0 = ap (λ (n : ℕ). n % 2 ^ count) (sym (add-zero (word * 2 ^ count))) ∙ mod-mul-add word (2 ^ count) 0 (pow_pos count) in
    ap (λ (n : ℕ). word * 2 ^ count % n) power ∙ mod-mul (word * 2 ^ count) (pow_pos (64 - count)) (pow_pos count)
    ∙ ap (λ (n : ℕ). n % 2 ^ (64 - count) * 2 ^ count + word * 2 ^ count % 2 ^ count) whole
    ∙ ap (λ (n : ℕ). word % 2 ^ (64 - count) * 2 ^ count + n) none ∙ add-zero (word % 2 ^ (64 - count) * 2 ^ count)

-- and its last ones stay, and others fit behind them
pub moved_bits : (have word count number : ℕ) → have + count ≤ 64 → number < 2 ^ count → word_bits (have + count) (word * 2 ^ count % 2 ^ 64 + number) ≡ word_bits have word ++ word_bits count number
moved_bits have word count number within small =
    ap (λ (n : ℕ). word_bits (have + count) (n + number)) (moved word count (omega arith)) ∙ joined_bits have (word % 2 ^ (64 - count)) count number small
    ∙ ap (λ (bits : List Bool). bits ++ word_bits count number) (same_word_bits have (word % 2 ^ (64 - count)) word (λ i lt. low_bits_of word (64 - count) i (omega arith)))

pub moved_fits : (word count number : ℕ) → count ≤ 64 → number < 2 ^ count → word * 2 ^ count % 2 ^ 64 + number < 2 ^ 64
moved_fits word count number within small =
    let parts : 64 - count + count ≡ 64 = omega arith in
    let fits : word % 2 ^ (64 - count) * 2 ^ count + number < 2 ^ (64 - count + count) = joined_fits (64 - count) (word % 2 ^ (64 - count)) count number (mod-lt word (pow_pos (64 - count))) small in
    omega (arith, moved word count within, subst (λ (n : ℕ). word % 2 ^ (64 - count) * 2 ^ count + number < 2 ^ n) parts fits)

-- the first eight of a word's bits
pub first_byte : (bytes : List ℕ) (count word : ℕ) → 8 ≤ count → bits_of (bytes ++ (word / 2 ^ (count - 8) % 256) ∷ []) ++ word_bits (count - 8) word ≡ bits_of bytes ++ word_bits count word
first_byte bytes count word many =
    let upper = word / 2 ^ (count - 8) in
    let parts : 8 + (count - 8) ≡ count = omega arith in
    let byte : byte_bits (upper % 256) ≡ word_bits 8 upper = sym (byte_is_word (upper % 256)) ∙ same_word_bits 8 (upper % 2 ^ 8) upper (λ i lt. low_bits_of upper 8 i lt) in
    ap (λ (bits : List Bool). bits ++ word_bits (count - 8) word) (bits_of-push bytes (upper % 256) ∙ ap (λ (bits : List Bool). bits_of bytes ++ bits) byte)
    ∙ append_assoc (bits_of bytes) (word_bits 8 upper) (word_bits (count - 8) word)
    ∙ ap (λ (bits : List Bool). bits_of bytes ++ bits) (sym (split 8 (count - 8) word) ∙ ap (λ (n : ℕ). word_bits n word) parts)

-- the last of a list's first elements is taken away
pub one_fewer : (first less all : List ℕ) (last n : ℕ) → first ≡ take (n + 1) all → first ≡ less ++ last ∷ [] → length less ≡ n → less ≡ take n all
one_fewer first less all last n is parts long =
    sym (ap (λ (k : ℕ). take k first) (sym long) ∙ ap (take (length less)) parts ∙ take-append_seam less (last ∷ []))
    ∙ ap (take n) is ∙ take-take n (n + 1) all (omega arith)

-- a word whose bits are moved up to its first place begins with as many of them as make whole bytes
first_bits : (count word first : ℕ) → count < 64 → first ≡ word * 2 ^ ((64 - count) % 64) % 2 ^ 64
    → (rest : List Bool) × (word_bits 64 first ≡ word_bits (8 * (count / 8)) (word / 2 ^ (count % 8)) ++ rest)
unfolding word_bits
first_bits zero word first small is = (word_bits 64 first, refl)
first_bits (suc n) word first small is =
    let count = suc n in
    let up = 64 - count in
    let whole = 8 * (count / 8) in
    let shift : (64 - count) % 64 ≡ up = omega arith in
    let all : 64 ≡ count + up = omega arith in
    let parts : count ≡ whole + count % 8 = omega arith in
    let last = word_bits (count % 8) word in
    let room = word_bits up 0 in (
      last ++ room,
      ap (word_bits 64) (is ∙ ap (λ (k : ℕ). word * 2 ^ k % 2 ^ 64) shift ∙ sym (add-zero (word * 2 ^ up % 2 ^ 64)))
          ∙ ap (λ (k : ℕ). word_bits k (word * 2 ^ up % 2 ^ 64 + 0)) all ∙ moved_bits count word up 0 (omega arith) (pow_pos up)
          ∙ ap (λ (bits : List Bool). bits ++ room) (ap (λ (k : ℕ). word_bits k word) parts ∙ split whole (count % 8) word)
          ∙ append_assoc (word_bits whole (word / 2 ^ (count % 8))) last room,
    )

-- such a word's eight bytes, cut back to those that these bits fill
pub whole_first : (bytes eight cut : List ℕ) (count word first : ℕ) → count < 64 → first ≡ word * 2 ^ ((64 - count) % 64) % 2 ^ 64 → length eight ≡ length bytes + 8
    → cut ≡ take (length eight - (8 - count / 8)) eight → bits_of eight ++ word_bits 0 first ≡ bits_of bytes ++ word_bits 64 first
    → bits_of cut ++ word_bits (count % 8) word ≡ bits_of bytes ++ word_bits count word
whole_first bytes eight cut count word first small is long kept put =
    let whole = 8 * (count / 8) in
    let left : length eight - (8 - count / 8) ≡ length bytes + count / 8 = omega (arith, long) in
    let parts : whole + count % 8 ≡ count = omega arith in
    let full = word_bits whole (word / 2 ^ (count % 8)) in
    let last = word_bits (count % 8) word in
    let begins = first_bits count word first small is in
    let front = bits_of bytes ++ full in
    let edge : 8 * (length bytes + count / 8) ≡ length front = omega (arith, length-append (bits_of bytes) full, length-bits_of bytes, length-word_bits whole (word / 2 ^ (count % 8))) in
    let all : bits_of eight ≡ front ++ begins.0 =
    sym (no_bits eight 0 first refl) ∙ put ∙ ap (λ (bits : List Bool). bits_of bytes ++ bits) begins.1 ∙ sym (append_assoc (bits_of bytes) full begins.0) in
    let cut_bits : bits_of cut ≡ front =
    ap bits_of (kept ∙ ap (λ (n : ℕ). take n eight) left) ∙ sym (take-bits_of (length bytes + count / 8) eight) ∙ ap (λ (n : ℕ). take n (bits_of eight)) edge
    ∙ ap (take (length front)) all ∙ take-append_seam front begins.0 in
    ap (λ (bits : List Bool). bits ++ last) cut_bits ∙ append_assoc (bits_of bytes) full last
    ∙ ap (λ (bits : List Bool). bits_of bytes ++ bits) (sym (ap (λ (n : ℕ). word_bits n word) (sym parts) ∙ split whole (count % 8) word))

-- zeros alone
pub zeros_are : (count : ℕ) → word_bits count 0 ≡ replicate count false
unfolding word_bits
zeros_are zero = refl
zeros_are (suc count) = ap (λ (n : ℕ). eqb n 1 ∷ word_bits count 0) (bit_at-zero count) ∙ ap (λ (bits : List Bool). false ∷ bits) (zeros_are count)

-- a word that is moved up within 64 bits
pub moved_up : (have word count : ℕ) → word < 2 ^ have → have + count < 64 → word * 2 ^ count % 2 ^ 64 ≡ word * 2 ^ count
moved_up have word count fits small =
    let power : 2 ^ (have + count) ≤ 2 ^ 63 = pow-le-pow_right (omega arith) {j = 63} (omega arith) in
    let within = joined_fits have word count 0 fits (pow_pos count) in
    mod-eq_of_lt (omega (arith, power, within))

-- its last bits alone
pub last_bits : (count word : ℕ) → count < 64 → word_bits count (word % (1 * 2 ^ count % 2 ^ 64)) ≡ word_bits count word
last_bits count word small = ap (λ (n : ℕ). word_bits count (word % n)) (one_shl count 64 small) ∙ same_word_bits count (word % 2 ^ count) word (λ i lt. low_bits_of word count i lt)

-- a bit alone
pub single_bit : (bit : Bool) (number : ℕ) → number ≡ bool_byte bit → word_bits 1 number ≡ bit ∷ []
unfolding word_bits
single_bit true number is = rw is refl
single_bit false number is = rw is refl

-- how many bits there are
pub length_so_far : (bytes : List ℕ) (count word : ℕ) → length (bits_of bytes ++ word_bits count word) ≡ 8 * length bytes + count
length_so_far bytes count word = length-append (bits_of bytes) (word_bits count word) ∙ omega (arith, length-bits_of bytes, length-word_bits count word)

pub edge_so_far : (bytes : List ℕ) (count word : ℕ) → to_edge (length (bits_of bytes ++ word_bits count word)) ≡ (8 - count % 8) % 8
edge_so_far bytes count word = omega (arith, length_so_far bytes count word)

pub filled_up : (bytes : List ℕ) (count word missing number : ℕ) (bit : Bool) (old new : List Bool) → bits_of bytes ++ word_bits count word ≡ old → missing ≡ (8 - count % 8) % 8
    → word_bits missing number ≡ replicate missing bit → new ≡ old ++ word_bits missing number → new ≡ old ++ replicate (to_edge (length old)) bit
filled_up bytes count word missing number bit old new view is same wrote = grind (arith, edge_so_far)

-- zeros behind the bits, up to a whole byte
pub whole_bytes : (bytes : List ℕ) (count word missing : ℕ) (old : List Bool) → bits_of bytes ++ word_bits count word ≡ old → count < 32 → missing ≡ (8 - count % 8) % 8
    → bits_of bytes ++ word_bits (count + missing) (word * 2 ^ missing % 2 ^ 64) ≡ old ++ replicate (to_edge (length old)) false
whole_bytes bytes count word missing old view small is =
    let edge : missing ≡ to_edge (length old) = is ∙ sym (edge_so_far bytes count word) ∙ ap (λ (bits : List Bool). to_edge (length bits)) view in
    ap (λ (n : ℕ). bits_of bytes ++ word_bits (count + missing) n) (sym (add-zero (word * 2 ^ missing % 2 ^ 64)))
    ∙ ap (λ (bits : List Bool). bits_of bytes ++ bits) (moved_bits count word missing 0 (omega arith) (pow_pos missing))
    ∙ sym (append_assoc (bits_of bytes) (word_bits count word) (word_bits missing 0))
    ∙ ap (λ (bits : List Bool). bits ++ word_bits missing 0) view
    ∙ ap (λ (bits : List Bool). old ++ bits) (zeros_are missing ∙ ap (λ (n : ℕ). replicate n false) edge)

-- bits behind what waits
pub added : (bytes before : List ℕ) (have word count number next filled : ℕ) (old : List Bool) → bits_of before ++ word_bits have word ≡ old → bytes ≡ before
    → filled ≡ have + count → word_bits (have + count) next ≡ word_bits have word ++ word_bits count number → bits_of bytes ++ word_bits filled next ≡ old ++ word_bits count number
added bytes before have word count number next filled old view same sum joined = grind (arith, append_assoc)

-- the same bit some more times
pub repeated_more : (times left count : ℕ) (bit : Bool) (old before word after : List Bool) → left ≤ times → count ≤ left → before ≡ old ++ replicate (times - left) bit → word ≡ replicate count bit → after ≡ before ++ word
    → after ≡ old ++ replicate (times - (left - count)) bit
repeated_more times left count bit old before word after within some so_far is wrote =
    grind (arith, append_assoc, replicate-append-replicate)

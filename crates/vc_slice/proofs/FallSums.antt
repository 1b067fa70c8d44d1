-- Sums over the entries from a place on, and how they change.
use Rattle.std.proofs.Common.{◌≡◌, ℕ, zero, suc, ◌+◌, ◌-◌, ◌*◌, ◌/◌, ◌^◌, ◌<◌, ◌≤◌, ℤ, pos, negsuc, unsigned_abs, false, List, [], ◌∷◌, ◌++◌, length, get_or, replicate, refl, sym, ap, ◌∙◌, arith, inl, inr, slice_set, drop, drop-cons, get_or-set_other, get_or-set_same}
use Rattle.std.specs.Prelude.{max, ◌↔◌}
use Rattle.std.proofs.lemmas.Bool.{cases_lt, le-leb, lt-leb}
use Rattle.std.proofs.lemmas.Int.{ints}
use Rattle.std.proofs.lemmas.Grind.{common_steps}
use Rattle.std.specs.List.{list_any}
use Rattle.vc_types.specs.Slices.{is_large}
use Rattle.std.proofs.Math.Nat.{pow-le-pow_right, pow-suc}
use Rattle.vc_types.specs.Codes.{sint_bits}
use Rattle.vc_types.specs.Quantisation.{quant_factor, quantised}
use Rattle.vc_quant.proofs.Quotients.{not_larger}
use Rattle.vc_types.proofs.Quantisers.{quant_factor_range}
use Rattle.vc_slice.specs.Falls.{sum_from, most_from, code_steps, block_from}
use Rattle.vc_slice.specs.Inside.{codes_behind, subband_numbers}
use Rattle.vc_slice.proofs.BlockCodes.{behind_zero, length_other}
use Rattle.vc_slice.proofs.CodeLengths.{length-code}

-- ---- entries

pub sum_none : (q n : ℕ) → sum_from q (replicate n 0) ≡ 0
unfolding sum_from
sum_none q zero = refl
sum_none zero (suc n) = omega (arith, sum_none zero n)
sum_none (suc q) (suc n) = sum_none q n

pub most_none : (q n : ℕ) → most_from q (replicate n 0) ≡ 0
unfolding most_from
most_none q zero = refl
most_none zero (suc n) = rw (most_none zero n) refl
most_none (suc q) (suc n) = most_none q n

pub sum_set : (q j : ℕ) (xs : List ℕ) (v a : ℕ) → j < length xs → v ≡ get_or xs j 0 + a → q ≤ j → sum_from q (slice_set xs j v) ≡ sum_from q xs + a
unfolding sum_from
sum_set q j [] v a lt is le = absurd (omega arith)
sum_set zero zero (x ∷ xs) v a lt is le = omega (arith, is)
sum_set (suc q) zero (x ∷ xs) v a lt is le = absurd (omega arith)
sum_set zero (suc j) (x ∷ xs) v a lt is le = omega (arith, sum_set zero j xs v a (omega arith) is (omega arith))
sum_set (suc q) (suc j) (x ∷ xs) v a lt is le = sum_set q j xs v a (omega arith) is (omega arith)

pub sum_set_above : (q j : ℕ) (xs : List ℕ) (v : ℕ) → j < q → sum_from q (slice_set xs j v) ≡ sum_from q xs
unfolding sum_from
sum_set_above q j [] v lt = refl
sum_set_above zero j (x ∷ xs) v lt = absurd (omega arith)
sum_set_above (suc q) zero (x ∷ xs) v lt = refl
sum_set_above (suc q) (suc j) (x ∷ xs) v lt = sum_set_above q j xs v (omega arith)

pub most_set : (q j : ℕ) (xs : List ℕ) (v : ℕ) → j < length xs → ((r : ℕ) → most_from r xs ≤ v) → q ≤ j → most_from q (slice_set xs j v) ≡ v
unfolding most_from
most_set q j [] v lt all le = absurd (omega arith)
most_set zero zero (x ∷ xs) v lt all le = omega (arith, all 1)
most_set (suc q) zero (x ∷ xs) v lt all le = absurd (omega arith)
most_set zero (suc j) (x ∷ xs) v lt all le = omega (arith, all 0, most_set zero j xs v (omega arith) (λ r. all (suc r)) (omega arith))
most_set (suc q) (suc j) (x ∷ xs) v lt all le = most_set q j xs v (omega arith) (λ r. all (suc r)) (omega arith)

pub most_set_above : (q j : ℕ) (xs : List ℕ) (v : ℕ) → j < q → most_from q (slice_set xs j v) ≡ most_from q xs
unfolding most_from
most_set_above q j [] v lt = refl
most_set_above zero j (x ∷ xs) v lt = absurd (omega arith)
most_set_above (suc q) zero (x ∷ xs) v lt = refl
most_set_above (suc q) (suc j) (x ∷ xs) v lt = most_set_above q j xs v (omega arith)

pub most_set_le : (j : ℕ) (xs : List ℕ) (v : ℕ) → j < length xs → ((r : ℕ) → most_from r xs ≤ v) → (q : ℕ) → most_from q (slice_set xs j v) ≤ v
most_set_le j xs v lt all q = grind (arith, most_set_above, most_set)

pub entry_le : (j : ℕ) (xs : List ℕ) → get_or xs j 0 ≤ sum_from 0 xs
unfolding sum_from
entry_le j [] = omega arith
entry_le zero (x ∷ xs) = omega arith
entry_le (suc j) (x ∷ xs) = omega (arith, entry_le j xs)

pub sum_step : (q : ℕ) (xs : List ℕ) → q < length xs → sum_from q xs ≡ get_or xs q 0 + sum_from (q + 1) xs
unfolding sum_from
sum_step q [] lt = absurd (omega arith)
sum_step zero (x ∷ xs) lt = refl
sum_step (suc q) (x ∷ xs) lt = let same : suc q + 1 ≡ suc (q + 1) = omega arith in rw same (sum_step q xs (omega arith))

pub most_step : (q : ℕ) (xs : List ℕ) → q < length xs → most_from q xs ≡ max (get_or xs q 0) (most_from (q + 1) xs)
unfolding most_from
most_step q [] lt = absurd (omega arith)
most_step zero (x ∷ xs) lt = refl
most_step (suc q) (x ∷ xs) lt = let same : suc q + 1 ≡ suc (q + 1) = omega arith in rw same (most_step q xs (omega arith))

pub sum_past : (q : ℕ) (xs : List ℕ) → length xs ≤ q → sum_from q xs ≡ 0
unfolding sum_from
sum_past q [] le = refl
sum_past zero (x ∷ xs) le = absurd (omega arith)
sum_past (suc q) (x ∷ xs) le = sum_past q xs (omega arith)

pub most_past : (q : ℕ) (xs : List ℕ) → length xs ≤ q → most_from q xs ≡ 0
unfolding most_from
most_past q [] le = refl
most_past zero (x ∷ xs) le = absurd (omega arith)
most_past (suc q) (x ∷ xs) le = most_past q xs (omega arith)

pub sum_falls : (q : ℕ) (xs : List ℕ) → sum_from q xs ≤ sum_from 0 xs
unfolding sum_from
sum_falls q [] = omega arith
sum_falls zero (x ∷ xs) = omega arith
sum_falls (suc q) (x ∷ xs) = omega (arith, sum_falls q xs)

-- ---- the bits of a code

pub one_step : (n : ℕ) → n < 2 → code_steps 1 n ≡ 0
unfolding code_steps
one_step n small = rw (lt-leb 2 n small) refl

pub first_step : (n : ℕ) → 2 ≤ n → code_steps 1 n ≡ 3
unfolding code_steps
first_step n many = rw (le-leb 2 n many) refl

pub next_step : (k n : ℕ) → 1 ≤ k → 2 ^ (k + 1) ≤ n → code_steps (k + 1) n ≡ code_steps k n + 2
unfolding code_steps
next_step zero n some le = absurd (omega arith)
next_step (suc k) n some le = let same : suc k + 1 ≡ suc (suc k) = omega arith in rw same (rw (le-leb (2 ^ suc (suc k)) n (rw (sym same) le)) refl)

pub no_step : (k n : ℕ) → 1 ≤ k → n < 2 ^ (k + 1) → code_steps (k + 1) n ≡ code_steps k n
unfolding code_steps
no_step zero n some lt = absurd (omega arith)
no_step (suc k) n some lt = let same : suc k + 1 ≡ suc (suc k) = omega arith in rw same (rw (lt-leb (2 ^ suc (suc k)) n (rw (sym same) lt)) (omega arith))

-- all digits
pub steps_all : (more k n : ℕ) → 1 ≤ k → n < 2 ^ (k + 1) → code_steps (more + k) n ≡ code_steps k n
steps_all zero k n some small = ap (λ (j : ℕ). code_steps j n) (let e : zero + k ≡ k = omega arith in e)
steps_all (suc more) k n some small =
    let same : suc more + k ≡ more + k + 1 = omega arith in
    let power : 2 ^ (k + 1) ≤ 2 ^ (more + k + 1) = pow-le-pow_right (omega arith) (omega arith) in
    ap (λ (j : ℕ). code_steps j n) same ∙ no_step (more + k) n (omega arith) (omega (arith, power)) ∙ steps_all more k n some small

pub steps_up : (k n : ℕ) → 1 ≤ k → k ≤ 60 → n < 2 ^ (k + 1) → code_steps 60 n ≡ code_steps k n
steps_up k n some few small = let same : 60 ≡ 60 - k + k = omega arith in ap (λ (j : ℕ). code_steps j n) same ∙ steps_all (60 - k) k n some small

pub steps_none : (n : ℕ) → n < 2 → code_steps 60 n ≡ 0
steps_none n small = steps_up 1 n (omega arith) (omega arith) (omega arith) ∙ one_step n small

steps_at : (k n : ℕ) → 2 ^ (k + 1) ≤ n → code_steps (k + 1) n ≡ 2 * (k + 1) + 1
steps_at zero n le = first_step n (omega arith)
steps_at (suc k) n le =
    let same : suc k + 1 ≡ k + 1 + 1 = omega arith in
    let power = pow-suc 2 (k + 1) in
    let here : 2 ^ (k + 1 + 1) ≤ n = rw (sym same) le in
    let before : 2 ^ (k + 1) ≤ n = omega (arith, here, pow-le-pow_right {n = 2} (omega arith) {i = k + 1} {j = k + 1 + 1} (omega arith)) in
    rw same (omega (arith, next_step (k + 1) n (omega arith) here, steps_at k n before))

record HasPlace (k n : ℕ) : Type 0 where
  place : ℕ
  few : place + 1 ≤ k
  low : 2 ^ (place + 1) ≤ n
  high : n < 2 ^ (place + 1 + 1)

place_of : (k n : ℕ) → 2 ≤ n → n < 2 ^ (k + 1) → HasPlace k n
place_of zero n some small = absurd (omega arith)
place_of (suc k) n some small =
    let same : suc k + 1 ≡ k + 1 + 1 = omega arith in
    elim (cases_lt n (2 ^ (k + 1))) [
      | inl lt ↦ let p = place_of k n some lt in record { place = p.place; few = omega (arith, p.few); low = p.low; high = p.high }
      | inr le ↦ record { place = k; few = omega arith; low = le; high = rw (sym same) small }
    ]

-- a code has the bits of its steps, and one
pub length_steps : (z : ℤ) → 0 < unsigned_abs z → unsigned_abs z < 2 ^ 60 → length (sint_bits z) ≡ code_steps 60 (unsigned_abs z + 1) + 1
length_steps z some small =
    let p = place_of 60 (unsigned_abs z + 1) (omega arith) (omega arith) in
    let double = pow-suc 2 (p.place + 1) in
    let next : 2 ^ (p.place + 1 + 1) ≡ 2 ^ suc (p.place + 1) = ap (λ (n : ℕ). 2 ^ n) (let e : p.place + 1 + 1 ≡ suc (p.place + 1) = omega arith in e) in
    let long = length-code z (p.place + 1) some p.low (omega (arith, p.high, double, next)) in
    omega (arith, long, steps_up (p.place + 1) (unsigned_abs z + 1) (omega arith) p.few p.high, steps_at p.place (unsigned_abs z + 1) p.low)

-- one more digit
pub step_more : (digits n q last before now other first : ℕ) → 2 ≤ digits → ((2 ^ digits ≤ n) ↔ (q ≤ last)) → (q ≤ last → now ≡ before + 2) → (last < q → now ≡ before) → before + first ≡ other + code_steps (digits - 1) n
    → now + first ≡ other + code_steps (digits + 1 - 1) n
step_more digits n q last before now other first some exactly on off so_far =
    let same : digits - 1 + 1 ≡ digits = omega arith in
    let next : digits + 1 - 1 ≡ digits - 1 + 1 = omega arith in
    rw next (elim (cases_lt last q) [
      | inl lt ↦
          let few : n < 2 ^ digits = (elim (cases_lt n (2 ^ digits)) [ inl below ↦ below | inr over ↦ absurd (omega (arith, exactly.0 over)) ]) in
          omega (arith, off lt, so_far, no_step (digits - 1) n (omega arith) (rw same few))
      | inr le ↦ omega (arith, on le, so_far, next_step (digits - 1) n (omega arith) (rw same (exactly.1 le)))
    ])

-- and no more
pub number_le : (magnitude q : ℕ) → q ≤ 127 → 4 * magnitude / quant_factor q ≤ magnitude
number_le magnitude q few = not_larger magnitude (quant_factor q) (quant_factor_range q)

pub steps_done : (digits magnitude q : ℕ) → q ≤ 127 → 2 ≤ digits → digits ≤ 61 → magnitude + 1 < 2 ^ digits → code_steps (digits - 1) (4 * magnitude / quant_factor q + 1) ≡ code_steps 60 (4 * magnitude / quant_factor q + 1)
steps_done digits magnitude q within some few above = grind (arith, number_le, steps_up)

-- the first digit too
pub first_more : (n q last before now after : ℕ) → ((2 ^ 1 ≤ n) ↔ (q ≤ last)) → (q ≤ last → now ≡ before + 3) → (last < q → now ≡ before) → after + code_steps 1 n ≡ now + code_steps 60 n → after ≡ before + code_steps 60 n
first_more n q last before now after exactly on off so_far =
    elim (cases_lt last q) [
      | inl lt ↦
          let few : n < 2 = (elim (cases_lt n 2) [ inl below ↦ below | inr over ↦ absurd (omega (arith, exactly.0 over)) ]) in
          omega (arith, off lt, so_far, one_step n few)
      | inr le ↦ omega (arith, on le, so_far, first_step n (exactly.1 le))
    ]

pub no_steps : (magnitude q sum : ℕ) → q ≤ 127 → magnitude ≤ 0 → sum ≡ sum + code_steps 60 (4 * magnitude / quant_factor q + 1)
no_steps magnitude q sum within none = omega (arith, steps_none (4 * magnitude / quant_factor q + 1) (omega (arith, number_le magnitude q within)))

-- ---- a block

pub abs_quantised : (z : ℤ) (q : ℕ) → unsigned_abs (quantised z q) ≡ 4 * unsigned_abs z / quant_factor q
unfolding quantised
abs_quantised (pos n) q = refl
abs_quantised (negsuc n) q = omega (arith, ints)

-- one more number of a block
pub fallen : (q least magnitude count now : ℕ) (bits kept bits2 kept2 : List ℕ) (z : ℤ) (more : List ℤ) → q ≤ 127 → magnitude ≡ unsigned_abs z → magnitude < 2 ^ 60 → now ≡ count + 1
    → most_from q kept ≤ count
    → sum_from q bits2 ≡ sum_from q bits + code_steps 60 (4 * magnitude / quant_factor (q - least) + 1)
    → (4 * magnitude / quant_factor (q - least) ≡ 0 → most_from q kept2 ≡ most_from q kept)
    → (0 < 4 * magnitude / quant_factor (q - least) → most_from q kept2 ≡ now)
    → block_from q now bits2 kept2 more ≡ block_from q count bits kept (quantised z (q - least) ∷ more)
fallen q least magnitude count now bits kept bits2 kept2 z more within is small next most sum none_kept other =
    let number = quantised z (q - least) in
    let size : unsigned_abs number ≡ 4 * magnitude / quant_factor (q - least) = abs_quantised z (q - least) ∙ ap (λ (n : ℕ). 4 * n / quant_factor (q - least)) (sym is) in
    elim (cases_lt 0 (unsigned_abs number)) [
      | inl some ↦
          let few : unsigned_abs number < 2 ^ 60 = omega (arith, size, is, small, number_le magnitude (q - least) (omega arith)) in
          let long = length_steps number some few in
          let steps_same = ap (λ (n : ℕ). code_steps 60 (n + 1)) size in
          let behind = length_other (count - most_from q kept) number more some in
          let last : most_from q kept2 ≡ now = other (omega (arith, size, some)) in
          let none : now - most_from q kept2 ≡ 0 = omega (arith, last) in
          let rest = ap (λ (n : ℕ). length (codes_behind n more)) none in
          omega (arith, long, steps_same, behind, last, rest, sum, next, most)
      | inr none ↦
          let zero_size : unsigned_abs number ≡ 0 = omega arith in
          let kept_same : most_from q kept2 ≡ most_from q kept = none_kept (omega (arith, size, zero_size)) in
          let behind = ap length (behind_zero (count - most_from q kept) number more zero_size) in
          let places : now - most_from q kept2 ≡ count - most_from q kept + 1 = omega (arith, next, kept_same, most) in
          let rest = ap (λ (n : ℕ). length (codes_behind n more)) places in
          let no_bits : code_steps 60 (4 * magnitude / quant_factor (q - least) + 1) ≡ 0 = steps_none (4 * magnitude / quant_factor (q - least) + 1) (omega (arith, size, zero_size)) in
          omega (arith, behind, rest, kept_same, sum, no_bits)
    ]

pub next_number : (index k : ℕ) (coefficients more : List ℤ) → k < length coefficients → subband_numbers index (drop k coefficients) ++ more ≡ quantised (get_or coefficients k (pos 0)) index ∷ (subband_numbers index (drop (k + 1) coefficients) ++ more)
next_number index k coefficients more lt = grind (arith, drop-cons)

-- nothing has come yet, and nothing comes any more
pub begins : (q count : ℕ) (bits kept : List ℕ) (more : List ℤ) → count ≡ 0 → sum_from q bits ≡ 0 → most_from q kept ≡ 0 → block_from q count bits kept more ≡ length (codes_behind 0 more)
begins q count bits kept more none no_bits no_place = grind arith

pub ends : (q count : ℕ) (bits kept : List ℕ) (more : List ℤ) → more ≡ [] → block_from q count bits kept more ≡ sum_from q bits + most_from q kept
unfolding codes_behind
ends q count bits kept more none = rw none (omega arith)

-- no coefficient is large
pub small_at : (k : ℕ) (coefficients : List ℤ) → list_any is_large coefficients ≡ false → k < length coefficients → unsigned_abs (get_or coefficients k (pos 0)) < 2 ^ 60
small_at k coefficients none lt = grind (arith, common_steps)

-- one more index, from the last on
pub index_more : (index : ℕ) (bits kept lens : List ℕ) (now_bits now_kept : ℕ) → 0 < index → index ≤ 128 → length bits ≡ 128 → length kept ≡ 128 → length lens ≡ 128
    → now_bits ≡ sum_from (index - 1) bits → now_kept ≡ most_from (index - 1) kept
    → ((q : ℕ) → index ≤ q → q ≤ 127 → get_or lens q 0 ≡ sum_from q bits + most_from q kept)
    → (q : ℕ) → index - 1 ≤ q → q ≤ 127 → get_or (slice_set lens (index - 1) (now_bits + now_kept)) q 0 ≡ sum_from q bits + most_from q kept
index_more index bits kept lens now_bits now_kept some few long_bits long_kept long_lens is_bits is_kept done q from to =
    grind (arith, get_or-set_other, get_or-set_same)

pub bits_more : (index : ℕ) (bits : List ℕ) (so_far : ℕ) → 0 < index → index ≤ 128 → length bits ≡ 128 → so_far ≡ sum_from index bits → so_far + get_or bits (index - 1) 0 ≡ sum_from (index - 1) bits
bits_more index bits so_far some few long is = grind (arith, sum_step)

pub kept_more : (index : ℕ) (kept : List ℕ) (so_far : ℕ) → 0 < index → index ≤ 128 → length kept ≡ 128 → so_far ≡ most_from index kept → max (get_or kept (index - 1) 0) so_far ≡ most_from (index - 1) kept
kept_more index kept so_far some few long is = grind (arith, most_step)

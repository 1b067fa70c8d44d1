-- The bits that are left behind a slice's head, in two blocks.
use Rattle.std.proofs.Common.{◌≡◌, ℕ, ◌+◌, ◌-◌, ◌^◌, ◌<◌, ◌≤◌, min, Bool, List, [], length, take, drop, refl, sym, ap, ◌∙◌, arith, length-drop, inl, inr}
use Rattle.std.proofs.lemmas.Bool.{cases_lt}
use Rattle.std.proofs.lemmas.List.{take_all, drop_all, length-take-le, drop-drop}
use Rattle.vc_types.specs.Bits.{bits_of, number_of}
use Rattle.vc_types.proofs.Digits.{number_of-lt}
use Rattle.vc_lowdelay.specs.LowDelay.{LowSlice, length_bits, low_slice}

-- all of them, where a length is more
pub first_block : (n left : ℕ) (bits : List Bool) → left ≡ length bits → take (min n left) bits ≡ take n bits
first_block n left bits all = elim (cases_lt n left) [
  | inl lt ↦ ap (λ (k : ℕ). take k bits) (omega arith)
  | inr ge ↦ ap (λ (k : ℕ). take k bits) (omega arith) ∙ take_all left bits (omega (arith, all)) ∙ sym (take_all n bits (omega (arith, all)))
]

pub other_block : (n left : ℕ) (bits : List Bool) → left ≡ length bits
    → take (left - n) (drop (min n left) bits) ≡ drop n bits
other_block n left bits all = elim (cases_lt n left) [
  | inl lt ↦
      ap (λ (k : ℕ). take (left - n) (drop k bits)) (omega arith)
      ∙ take_all (left - n) (drop n bits) (omega (arith, all, length-drop n bits))
  | inr ge ↦
      ap (λ (k : ℕ). take (left - n) (drop k bits)) (omega arith)
      ∙ ap (take (left - n)) (drop_all left bits (omega (arith, all)))
      ∙ take_none (left - n)
      ∙ sym (drop_all n bits (omega (arith, all)))
]
  where
    take_none : (k : ℕ) → take {A = Bool} k [] ≡ []
    take_none k = take_all k [] (omega arith)

-- a number of so many bits
pub number_below : (n : ℕ) (bits : List Bool) → n ≤ length bits → number_of (take n bits) < 2 ^ n
number_below n bits h =
    let own = number_of-lt (take n bits) in
    let long = length-take-le n bits h in
    rw long at own

-- ---- a slice, part by part

same_slice : (index i : ℕ) (luma xs colour ys : List Bool) → index ≡ i → luma ≡ xs → colour ≡ ys → ◌≡◌ {A = LowSlice} (record { index = index; luma = luma; colour = colour }) (record { index = i; luma = xs; colour = ys })
same_slice index i luma xs colour ys e0 e1 e2 = rw e0 (rw e1 (rw e2 refl))

module _ (bytes : List ℕ) where
  abbrev bits : List Bool
  bits = bits_of bytes

  abbrev count : ℕ
  count = length_bits (length bytes)

  abbrev blocks : List Bool
  blocks = drop (7 + count) bits

  abbrev own : ℕ
  own = number_of (take count (drop 7 bits))

  pub slice_is : (b0 b1 b2 b3 : List Bool) (index m n left : ℕ) (luma colour : List Bool)
      → b0 ≡ bits_of bytes → index ≡ number_of (take 7 b0) → b1 ≡ drop 7 b0 → m ≡ length_bits (length bytes)
      → n ≡ number_of (take m b1) → b2 ≡ drop m b1 → left ≡ length b2
      → luma ≡ take (min n left) b2 → b3 ≡ drop (min n left) b2 → colour ≡ take (left - n) b3
      → ◌≡◌ {A = LowSlice} (record { index = index; luma = luma; colour = colour }) (low_slice bytes)
  unfolding low_slice
  slice_is b0 b1 b2 b3 index m n left luma colour e0 ei e1 em en e2 all el e3 ec =
      same_slice index (number_of (take 7 bits)) luma (take own blocks) colour (drop own blocks)
      (ei ∙ ap (λ (bs : List Bool). number_of (take 7 bs)) e0)
      (el ∙ first_block n left b2 all ∙ ap (λ (k : ℕ). take k b2) length_is ∙ ap (take own) blocks_are)
      (ec ∙ ap (take (left - n)) e3 ∙ other_block n left b2 all ∙ ap (λ (k : ℕ). drop k b2) length_is ∙ ap (drop own) blocks_are)
    where
      behind_index : b1 ≡ drop 7 bits
      behind_index = e1 ∙ ap (drop 7) e0

      length_is : n ≡ own
      length_is = en ∙ ap (λ (bs : List Bool). number_of (take m bs)) behind_index ∙ ap (λ (k : ℕ). number_of (take k (drop 7 bits))) em

      blocks_are : b2 ≡ blocks
      blocks_are = e2 ∙ ap (drop m) behind_index ∙ drop-drop m 7 bits ∙ ap (λ (k : ℕ). drop (7 + k) bits) em

-- Cells that are set one by one, from a place on.
use Rattle.std.proofs.Common.{◌≡◌, ℕ, ◌+◌, ◌<◌, ◌≤◌, List, length, ℤ, pos, unsigned_abs, w32, FitsSigned, to_z, of_z, slice_set, arith, ap, sym, subst, ◌∙◌, ◌⊎◌, inl, inr}
use Rattle.std.proofs.lemmas.Bool.{cases_eq}
use Rattle.std.proofs.lemmas.Int.{to_z-of_z}
use Rattle.std.proofs.lemmas.List.{get_or-set_same, get_or-set_other}
use Rattle.vc_types.specs.Lifting.{line_of}
use Rattle.vc_types.specs.Quantisation.{dequantised}

module _ (cells : List ℤ) (at x : ℕ) (z : ℤ) where
  pub set_more : (f : ℕ → ℤ) → at + x < length cells → ((i : ℕ) → i < x → line_of cells (at + i) ≡ f i) → z ≡ f x
      → (i : ℕ) → i < x + 1 → line_of (slice_set cells (at + x) z) (at + i) ≡ f i
  set_more f inside before own i h = elim (cases_eq i x) [
    | inl e ↦ ap (λ (k : ℕ). line_of (slice_set cells (at + x) z) (at + k)) e ∙ get_or-set_same cells (at + x) z (pos 0) inside ∙ own ∙ ap f (sym e)
    | inr ne ↦ get_or-set_other cells (at + x) (at + i) z (pos 0) (λ e. ne (omega arith)) ∙ before i (omega arith)
  ]

  pub set_off : (width : ℕ) → x < width → (i : ℕ) → (i < at) ⊎ (at + width ≤ i) → line_of (slice_set cells (at + x) z) i ≡ line_of cells i
  set_off width within i off = get_or-set_other cells (at + x) i z (pos 0) (λ e. absurd (omega arith))

-- the same from the first one on
pub set_next : (few : List ℤ) (x : ℕ) (z : ℤ) (f : ℕ → ℤ) → x < length few → ((i : ℕ) → i < x → line_of few i ≡ f i) → z ≡ f x
    → (i : ℕ) → i < x + 1 → line_of (slice_set few x z) i ≡ f i
set_next few x z f inside before own i h = elim (cases_eq i x) [
  | inl e ↦ ap (line_of (slice_set few x z)) e ∙ get_or-set_same few x z (pos 0) inside ∙ own ∙ ap f (sym e)
  | inr ne ↦ get_or-set_other few x i z (pos 0) ne ∙ before i (omega arith)
]

-- a number of 32 bits, and the coefficient that it stands for
pub small_read : (z : ℤ) (greatest : ℕ) → FitsSigned w32 z → unsigned_abs z ≤ greatest → unsigned_abs (to_z w32 (of_z w32 z)) ≤ greatest
small_read z greatest fits small = subst (λ (y : ℤ). unsigned_abs y ≤ greatest) (sym (to_z-of_z w32 z fits)) small

pub coefficient_read : (z r : ℤ) (index : ℕ) → FitsSigned w32 z → FitsSigned w32 r → r ≡ dequantised (to_z w32 (of_z w32 z)) index → to_z w32 (of_z w32 r) ≡ dequantised z index
coefficient_read z r index fits own is = to_z-of_z w32 r own ∙ is ∙ ap (λ (y : ℤ). dequantised y index) (to_z-of_z w32 z fits)

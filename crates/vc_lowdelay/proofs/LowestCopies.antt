-- Values of LL that are put into cells one by one in raster order, so many cells a row.
use Rattle.std.proofs.Common.{◌≡◌, ℕ, ◌+◌, ◌*◌, ◌<◌, ◌≤◌, List, length, ℤ, pos, slice_set, ap, sym, subst, ◌∙◌, add-mul, arith, inl, inr}
use Rattle.std.proofs.lemmas.Bool.{cases_eq}
use Rattle.std.proofs.lemmas.List.{get_or-set_same, get_or-set_other}
use Rattle.std.proofs.lemmas.Nat.{mul-add-lt, same_from_place}
use Rattle.vc_types.specs.Transforms.{Cells}
use Rattle.vc_lowdelay.specs.Narrow.{cells_of}

module _ (w h stride : ℕ) (f : Cells) where
  -- the first values stand at their places
  abbrev pub FirstStand : ℕ → List ℤ → Type 0
  FirstStand done cells = (a b : ℕ) → a < w → b < h → b * w + a < done → cells_of stride cells a b ≡ f a b

  pub none_stand : (cells : List ℤ) (done : ℕ) → done ≡ 0 → FirstStand done cells
  none_stand cells done none a b ha hb before = absurd (omega (arith, none, before))

  module _ (wide : w ≤ stride) (x y : ℕ) (hx : x < w) (hy : y < h) (cells : List ℤ) (z : ℤ) where
    pub one_more_stands : y * stride + x < length cells → z ≡ f x y → FirstStand (y * w + x) cells → FirstStand (y * w + (x + 1)) (slice_set cells (y * stride + x) z)
    one_more_stands inside is first a b ha hb before = elim (cases_eq (b * w + a) (y * w + x)) [
      | inl same ↦ (
          let place = same_from_place b a y x w ha hx same in
          ap (λ (m : ℕ). cells_of stride (slice_set cells (y * stride + x) z) a m) place.0
          ∙ ap (λ (m : ℕ). cells_of stride (slice_set cells (y * stride + x) z) m y) place.1
          ∙ get_or-set_same cells (y * stride + x) z (pos 0) inside
          ∙ is
          ∙ ap (λ (m : ℕ). f m y) (sym place.1) ∙ ap (f a) (sym place.0))
      | inr other ↦
          get_or-set_other cells (y * stride + x) (b * stride + a) z (pos 0) (λ same. (
          let place = same_from_place b a y x stride (omega (arith, ha, wide)) (omega (arith, hx, wide)) same in
          other (ap (λ (m : ℕ). m * w + a) place.0 ∙ ap (λ (m : ℕ). y * w + m) place.1)))
          ∙ first a b ha hb (omega (arith, before, other))
    ]

  pub row_stands : (y : ℕ) (cells : List ℤ) (done : ℕ) → done ≡ y * w + w → FirstStand done cells → FirstStand ((y + 1) * w) cells
  row_stands y cells done e first = subst (λ (n : ℕ). FirstStand n cells) (omega (arith, e, add-mul y 1 w)) first

  pub all_stand : (cells : List ℤ) (done : ℕ) → h * w ≤ done → FirstStand done cells → (a b : ℕ) → a < w → b < h → cells_of stride cells a b ≡ f a b
  all_stand cells done whole first a b ha hb = first a b ha hb (omega (arith, mul-add-lt b w a h hb ha, whole))

-- what is true of the first places, one by one
module _ (w h : ℕ) (P : ℕ → ℕ → Type 0) where
  abbrev pub FirstHold : ℕ → Type 0
  FirstHold done = (a b : ℕ) → a < w → b < h → b * w + a < done → P a b

  pub one_more_holds : (x y : ℕ) → x < w → P x y → FirstHold (y * w + x) → FirstHold (y * w + (x + 1))
  one_more_holds x y hx own first a b ha hb before = elim (cases_eq (b * w + a) (y * w + x)) [
    | inl same ↦ (
        let place = same_from_place b a y x w ha hx same in
        subst (λ (n : ℕ). P n b) (sym place.1) (subst (P x) (sym place.0) own))
    | inr other ↦ first a b ha hb (omega (arith, before, other))
  ]

  pub row_holds : (y done : ℕ) → done ≡ y * w + w → FirstHold done → FirstHold ((y + 1) * w)
  row_holds y done e first = subst FirstHold (omega (arith, e, add-mul y 1 w)) first

-- Rows that are taken in turn: where they stand, and what a level makes of the nested subbands that they
-- hold.
use Rattle.std.proofs.Common.{◌≡◌, ℕ, zero, suc, ◌+◌, ◌*◌, ◌/◌, ◌%◌, ◌^◌, ◌<◌, ◌≤◌, ◌⊎◌, inl, inr, List, ℤ}
use Rattle.std.proofs.Common.{arith, ap, sym, refl, ◌∙◌}
use Rattle.std.specs.Prelude.{if◌then◌else◌}
use mathlib.Core.Path.{fun_ext}
use Rattle.std.proofs.lemmas.Bool.{cases_lt}
use Rattle.std.proofs.Math.Nat.{mul-le-mul_right, pow-suc, mod-eq-sub-div-mul, div-mul-le_self, mod-lt}
use Rattle.std.proofs.Math.Pow.{pow_pos}
use Rattle.vc_types.specs.Lifting.{line_of}
use Rattle.vc_types.specs.Transforms.{Cells, is_within, source_of, on_columns}
use Rattle.vc_wave.specs.Layout.{row_in_turn, laid_out}
use Rattle.vc_wave.specs.Planes.{plane_of}
use Rattle.vc_wave.specs.Remade.{halves_together}
use Rattle.vc_wave.proofs.PlaneLines.{column_in, column_out, rearranged_in, rearranged_past}
use Rattle.vc_wave.proofs.PlaneSteps.{plane_in, plane_out}
use Rattle.vc_wave.proofs.TransformLocality.{StaysIn}
use Rattle.vc_wave.proofs.Weaving.{half_place_below, source_below, source_of-half_place, half_place-source_of}
use Rattle.vc_wave.proofs.Weaving.{first_source}

-- the row of a level that a cell is taken to
unfoldable pub turned : ℕ → ℕ → ℕ → ℕ → ℕ
turned w h x y = if is_within (2 * w) (2 * h) x y then source_of h y else y

pub turned_in : (w h x y : ℕ) → x < 2 * w → y < 2 * h → turned w h x y ≡ source_of h y
unfolding turned
turned_in w h x y a b = grind arith

pub turned_right : (w h x y : ℕ) → 2 * w ≤ x → turned w h x y ≡ y
unfolding turned
turned_right w h x y a = grind arith

pub turned_below : (w h x y : ℕ) → 2 * h ≤ y → turned w h x y ≡ y
unfolding turned
turned_below w h x y a = grind arith

pub row_step : (levels w h x y : ℕ)
    → row_in_turn (suc levels) w h x y ≡ row_in_turn levels (2 * w) (2 * h) x (turned w h x y)
unfolding row_in_turn turned
row_step levels w h x y = refl

pub row_end : (w h x y : ℕ) → row_in_turn 0 w h x y ≡ y
unfolding row_in_turn
row_end w h x y = refl

-- ---- no two rows fall together

turned_apart : (w h x y z : ℕ) → turned w h x y ≡ turned w h x z → y ≡ z
turned_apart w h x y z e =
    grind (arith, turned_right, half_place-source_of, turned_in, turned_below, source_below)

pub rows_apart : (levels w h x y z : ℕ) → row_in_turn levels w h x y ≡ row_in_turn levels w h x z → y ≡ z
rows_apart zero w h x y z e = sym (row_end w h x y) ∙ e ∙ row_end w h x z
rows_apart (suc levels) w h x y z e =
    turned_apart w h x y z
    (rows_apart levels (2 * w) (2 * h) x (turned w h x y) (turned w h x z)
    (sym (row_step levels w h x y) ∙ e ∙ row_step levels w h x z))

-- the rows of the lowest level's low subbands stand as far apart as there are rows of each
pub lowest_row : (levels w h x y : ℕ) → x < w → y < h → row_in_turn levels w h x y ≡ y * 2 ^ levels
lowest_row zero w h x y a b = row_end w h x y ∙ omega arith
lowest_row (suc levels) w h x y a b =
    row_step levels w h x y
    ∙ ap (row_in_turn levels (2 * w) (2 * h) x)
    (turned_in w h x y (omega arith) (omega arith) ∙ first_source h y b)
    ∙ lowest_row levels (2 * w) (2 * h) x (2 * y) (omega arith) (omega arith)
    ∙ omega (arith, ap (λ p. y * p) (pow-suc 2 levels))

-- ---- a level's rows are its subbands' rows in turn

pub laid_together : (levels w h : ℕ) (plane : Cells)
    → laid_out levels (2 * w) (2 * h) plane
    ≡ on_columns (halves_together h) (2 * w) (laid_out (suc levels) w h plane)
laid_together levels w h plane =
    grind (
      arith,
      row_step,
      turned_right,
      column_out,
      turned_below,
      column_in,
      rearranged_past,
      turned_in,
      half_place_below,
      source_of-half_place,
      rearranged_in,
    )

quotient_parts : (n m : ℕ) → n ≡ n / m * m + n % m
quotient_parts n m = omega (arith, mod-eq-sub-div-mul n m, div-mul-le_self n m)

-- ---- a function of planes that leaves all but the first columns and rows, on rows that stand apart

module _ (f : Cells → Cells) (a b levels w h stride : ℕ) (wide : a ≤ w) (high : b ≤ h) (inside : a ≤ stride)
    (stays : StaysIn a b f)
    (old new : List ℤ) (made : plane_of (stride * 2 ^ levels) new
    ≡ f (plane_of (stride * 2 ^ levels) old)) where
  -- cell (x, k * 2 ^ levels + r) is cell (r * stride + x, k) of the rows that stand apart
  same_place : (x k r : ℕ) → (k * 2 ^ levels + r) * stride + x ≡ k * (stride * 2 ^ levels) + (r * stride + x)
  same_place x k r = omega arith

  column_below : (x r : ℕ) → x < stride → r < 2 ^ levels → r * stride + x < stride * 2 ^ levels
  column_below x r h lt =
      (let above : suc r * stride ≤ 2 ^ levels * stride = mul-le-mul_right stride lt in omega (arith, above))

  spread : (cells : List ℤ) (x k r : ℕ) → x < stride → r < 2 ^ levels
      → plane_of stride cells x (k * 2 ^ levels + r) ≡ plane_of (stride * 2 ^ levels) cells (r * stride + x) k
  spread cells x k r h lt =
      plane_in stride cells x (k * 2 ^ levels + r) h ∙ ap (line_of cells) (same_place x k r)
      ∙ sym (plane_in (stride * 2 ^ levels) cells (r * stride + x) k (column_below x r h lt))

  at_lowest : (cells : List ℤ) (x y : ℕ) → x < a → y < b
      → laid_out levels w h (plane_of stride cells) x y ≡ plane_of (stride * 2 ^ levels) cells x y
  at_lowest cells x y lt below =
      (let row = lowest_row levels w h x y (omega arith) (omega arith) in
      let place : y * 2 ^ levels ≡ y * 2 ^ levels + 0 = omega arith in
      ap (plane_of stride cells x) (row ∙ place))
      ∙ spread cells x y 0 (omega arith) (pow_pos levels)
      ∙ (let first : 0 * stride + x ≡ x = omega arith in
      ap (λ u. plane_of (stride * 2 ^ levels) cells u y) first)

  -- a cell that the function leaves
  left_at : (x k r : ℕ) → x < stride → r < 2 ^ levels → (a ≤ r * stride + x) ⊎ (b ≤ k)
      → plane_of stride new x (k * 2 ^ levels + r) ≡ plane_of stride old x (k * 2 ^ levels + r)
  left_at x k r h lt out =
      spread new x k r h lt ∙ ap (λ p. p (r * stride + x) k) made
      ∙ stays.past (plane_of (stride * 2 ^ levels) old) (r * stride + x) k out
      ∙ sym (spread old x k r h lt)

  -- none of the cells outside the first columns and rows falls on those
  not_first : (x y k r : ℕ) → row_in_turn levels w h x y ≡ k * 2 ^ levels + r → x < stride → (a ≤ x) ⊎ (b ≤ y)
      → (a ≤ r * stride + x) ⊎ (r * stride + x < a) → (b ≤ k) ⊎ (k < b) → (a ≤ r * stride + x) ⊎ (b ≤ k)
  not_first x y k r e lt out (inl far) any = inl far
  not_first x y k r e lt out (inr near) (inl low) = inr low
  not_first x y k zero e lt (inl right) (inr near) (inr up) = absurd (omega arith)
  not_first x y k zero e lt (inr below) (inr near) (inr up) =
      (let row = lowest_row levels w h x k (omega arith) (omega arith) in
      let same : y ≡ k = rows_apart levels w h x y k (e ∙ omega (arith, row)) in
      absurd (omega (arith, same)))
  not_first x y k (suc r) e lt out (inr near) (inr up) = absurd (omega arith)

  kept : (x y : ℕ) → (x < stride) ⊎ (stride ≤ x) → (a ≤ x) ⊎ (b ≤ y)
      → laid_out levels w h (plane_of stride new) x y ≡ laid_out levels w h (plane_of stride old) x y
  kept x y (inr far) out = plane_out stride new x (row_in_turn levels w h x y) far
      ∙ sym (plane_out stride old x (row_in_turn levels w h x y) far)
  kept x y (inl lt) out =
      let some = pow_pos levels in
      let row = row_in_turn levels w h x y in
      let k = row / 2 ^ levels in
      let r = row % 2 ^ levels in
      let parts : row ≡ k * 2 ^ levels + r = quotient_parts row (2 ^ levels) in
      let rest : r < 2 ^ levels = mod-lt row some in
      ap (plane_of stride new x) parts
      ∙ left_at x k r lt rest
      (not_first x y k r parts lt out (either (cases_lt (r * stride + x) a)) (either (cases_lt k b)))
      ∙ sym (ap (plane_of stride old x) parts)
    where
      either : {m n : ℕ} → (m < n) ⊎ (n ≤ m) → (n ≤ m) ⊎ (m < n)
      either (inl h) = inr h
      either (inr h) = inl h

  laid_at : (x y : ℕ) → (x < a) ⊎ (a ≤ x) → (y < b) ⊎ (b ≤ y)
      → laid_out levels w h (plane_of stride new) x y ≡ f (laid_out levels w h (plane_of stride old)) x y
  laid_at x y (inr right) any = kept x y (cases_lt x stride) (inl right)
      ∙ sym (stays.past (laid_out levels w h (plane_of stride old)) x y (inl right))
  laid_at x y (inl lt) (inr low) = kept x y (cases_lt x stride) (inr low)
      ∙ sym (stays.past (laid_out levels w h (plane_of stride old)) x y (inr low))
  laid_at x y (inl lt) (inl below) =
      at_lowest new x y lt below ∙ ap (λ p. p x y) made
      ∙ stays.agrees (plane_of (stride * 2 ^ levels) old) (laid_out levels w h (plane_of stride old))
      (λ u v d e. sym (at_lowest old u v d e)) x y lt below

  pub laid_after : laid_out levels w h (plane_of stride new) ≡ f (laid_out levels w h (plane_of stride old))
  laid_after = fun_ext (λ x. fun_ext (λ y. laid_at x y (cases_lt x a) (cases_lt y b)))

-- A value grows by those before it alone; and LL as it has grown, once all slices are in it.
use Rattle.std.proofs.Common.{◌≡◌, ℕ, zero, suc, ◌^◌, ◌<◌, ◌≤◌, true, List, length, ℤ, ◌+ℤ◌, unsigned_abs, ap, subst, ◌∙◌, arith}
use Rattle.std.specs.Prelude.{slice_index_or}
use Rattle.vc_types.specs.declared.video.Component.{Component}
use Rattle.vc_types.specs.Lifting.{Line}
use Rattle.vc_types.specs.Pictures.{component_cells}
use Rattle.vc_types.specs.Rasters.{Lattice}
use Rattle.vc_types.specs.Slices.{Coefficients, coefficients_of}
use Rattle.vc_types.specs.Subbands.{slice_count, slice_coefficient_count}
use Rattle.vc_types.specs.TransformParameters.{Parameters}
use Rattle.vc_types.specs.Transforms.{Cells, lowest_width, lowest_height}
use Rattle.picture_build.specs.Kept.{no_coefficients}
use Rattle.vc_lowdelay.specs.Bands.{AreSmallValues, HasLargeValue, HasValues, IsGrown, value_in}
use Rattle.vc_lowdelay.specs.LowDelay.{are_large, first_row, next_row, grown_row, mean_of, predicted}
use Rattle.vc_lowdelay.proofs.PlacedValues.{FirstPlaced, all_placed, values_of}
use Rattle.vc_lowdelay.proofs.Soundness.{lowest_large, lowest_is_large}

-- ---- rows

first_agrees : (f g : Line) (x : ℕ) → ((a : ℕ) → a ≤ x → f a ≡ g a) → first_row f x ≡ first_row g x
unfolding first_row
first_agrees f g zero same = same zero (omega arith)
first_agrees f g (suc x) same =
    ap (λ (z : ℤ). z +ℤ first_row f x) (same (suc x) (omega arith))
    ∙ ap (λ (z : ℤ). g (suc x) +ℤ z) (first_agrees f g x (λ a h. same a (omega (arith, h))))

next_agrees : (u v f g : Line) (x : ℕ) → ((a : ℕ) → a ≤ x → u a ≡ v a) → ((a : ℕ) → a ≤ x → f a ≡ g a) → next_row u f x ≡ next_row v g x
unfolding next_row
next_agrees u v f g zero above same =
    ap (λ (z : ℤ). z +ℤ u zero) (same zero (omega arith)) ∙ ap (λ (z : ℤ). g zero +ℤ z) (above zero (omega arith))
next_agrees u v f g (suc x) above same =
    let left = next_agrees u v f g x (λ a h. above a (omega (arith, h))) (λ a h. same a (omega (arith, h))) in
    ap (λ (z : ℤ). z +ℤ mean_of (next_row u f x) (u x) (u (suc x))) (same (suc x) (omega arith))
    ∙ ap (λ (z : ℤ). g (suc x) +ℤ mean_of z (u x) (u (suc x))) left
    ∙ ap (λ (z : ℤ). g (suc x) +ℤ mean_of (next_row v g x) z (u (suc x))) (above x (omega arith))
    ∙ ap (λ (z : ℤ). g (suc x) +ℤ mean_of (next_row v g x) (v x) z) (above (suc x) (omega arith))

row_agrees : (f g : Cells) (y x : ℕ) → ((a b : ℕ) → a ≤ x → b ≤ y → f a b ≡ g a b) → grown_row f y x ≡ grown_row g y x
unfolding grown_row
row_agrees f g zero x same = first_agrees (λ a. f a zero) (λ a. g a zero) x (λ a h. same a zero h (omega arith))
row_agrees f g (suc y) x same =
    next_agrees (grown_row f y) (grown_row g y) (λ a. f a (suc y)) (λ a. g a (suc y)) x
    (λ a h. row_agrees f g y a (λ b d hb hd. same b d (omega (arith, hb, h)) (omega (arith, hd))))
    (λ a h. same a (suc y) h (omega arith))

pub predicted_agrees : (f g : Cells) (w h : ℕ) → ((a b : ℕ) → a < w → b < h → f a b ≡ g a b) → (x y : ℕ) → x < w → y < h → predicted f x y ≡ predicted g x y
predicted_agrees f g w h same x y hx hy = row_agrees f g y x (λ a b ha hb. same a b (omega (arith, ha, hx)) (omega (arith, hb, hy)))

-- ---- all slices are in LL

module _ (p : Parameters) (c : Component) (some_across : 0 < p.slices_x) (some_down : 0 < p.slices_y)
    (slices : List Coefficients) (all : length slices ≡ slice_count p)
    (counts : (k : ℕ) → k < length slices → length (coefficients_of (slice_index_or slices k no_coefficients) c) ≡ slice_coefficient_count p c k)
    (old : Lattice) (first : FirstPlaced p c (values_of slices c) (slice_count p) old) where
  holds : HasValues (component_cells p c slices) old
  holds = all_placed p c some_across some_down slices all counts old first

  pub is_grown : (new : Lattice) → new.width ≡ old.width → new.height ≡ old.height → HasValues (predicted (value_in old)) new → AreSmallValues new → IsGrown p c slices new
  is_grown new wide high values small = record {
    size = record { width = wide ∙ first.size.width; height = high ∙ first.size.height };
    values = λ x y hx hy. values x y hx hy ∙ predicted_agrees (value_in old) (component_cells p c slices) old.width old.height holds x y (omega (arith, hx, wide)) (omega (arith, hy, high));
    small = small;
  }

  pub grows_large : HasLargeValue (predicted (value_in old)) old → are_large p slices ≡ true
  grows_large has =
      let same = predicted_agrees (value_in old) (component_cells p c slices) old.width old.height holds has.x has.y has.across has.down in
      lowest_is_large p slices c
      (lowest_large (lowest_width p c) (lowest_height p c) (predicted (component_cells p c slices)) has.x has.y
      (omega (arith, has.across, first.size.width)) (omega (arith, has.down, first.size.height))
      (subst (λ (z : ℤ). 2 ^ 60 ≤ unsigned_abs z) same has.large))

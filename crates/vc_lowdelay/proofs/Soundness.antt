-- Whether a coefficient of a picture is large: in a slice, or in LL as it has grown.
use Rattle.std.proofs.Common.{◌≡◌, ℕ, ◌+◌, ◌*◌, ◌/◌, ◌%◌, ◌^◌, ◌<◌, ◌≤◌, Bool, true, false, List, ◌++◌, length, ℤ, pos, unsigned_abs, refl, ap, subst, ◌∙◌, arith}
use Rattle.std.specs.Prelude.{slice_index_or, ◌||◌}
use Rattle.std.specs.List.{list_any}
use Rattle.std.proofs.Math.Bool.{or-true}
use Rattle.std.proofs.lemmas.Bool.Decides.{nat_tests}
use Rattle.std.proofs.lemmas.List.Elements.{All-from_get_or}
use Rattle.std.proofs.lemmas.List.Folds.{list_any-append, list_any_none, list_any_at}
use Rattle.std.proofs.lemmas.Nat.{mod_below, div_below, mul-add-lt}
use Rattle.vc_types.specs.declared.video.Component.{Component}
use Rattle.vc_types.specs.declared.video.Component.TheVariants.{Y, C1, C2}
use Rattle.vc_types.specs.Rasters.{raster}
use Rattle.vc_types.specs.Slices.{Coefficients, coefficients_of, is_large}
use Rattle.vc_types.specs.TransformParameters.{Parameters}
use Rattle.vc_types.specs.Transforms.{Cells}
use Rattle.picture_build.specs.Kept.{no_coefficients}
use Rattle.picture_build.proofs.RasterLists.{raster-at, length-raster}
use Rattle.vc_lowdelay.specs.LowDelay.{are_large, lowest_values}

-- ---- one number

pub small_is : (z : ℤ) → unsigned_abs z < 2 ^ 60 → is_large z ≡ false
small_is z h = grind (arith, nat_tests)

pub large_is : (z : ℤ) → 2 ^ 60 ≤ unsigned_abs z → is_large z ≡ true
large_is z h = grind (arith, nat_tests)

-- ---- LL

module _ (w h : ℕ) (f : Cells) where
  pub lowest_small : ((x y : ℕ) → x < w → y < h → unsigned_abs (f x y) < 2 ^ 60) → list_any is_large (raster w h f) ≡ false
  lowest_small small = list_any_none is_large (raster w h f) (All-from_get_or (λ (z : ℤ). is_large z ≡ false) (raster w h f) (pos 0) (λ i below. (
      let whole = length-raster w f h in
      let inside : i < h * w = omega (arith, below, whole) in
      let some : 0 < w = some_columns i inside in
      let across = mod_below i w some in
      let down = div_below i w h some inside in
      let place : i / w * w + i % w ≡ i = omega arith in
      subst (λ (k : ℕ). is_large (slice_index_or (raster w h f) k (pos 0)) ≡ false) place
      (ap is_large (raster-at w f h (i % w) (i / w) (pos 0) across down) ∙ small_is (f (i % w) (i / w)) (small (i % w) (i / w) across down)))))
    where
      some_columns : (i : ℕ) → i < h * w → 0 < w
      some_columns i below = grind (arith, nat_tests)

  pub lowest_large : (x y : ℕ) → x < w → y < h → 2 ^ 60 ≤ unsigned_abs (f x y) → list_any is_large (raster w h f) ≡ true
  lowest_large x y across down large =
      let whole = length-raster w f h in
      list_any_at is_large (raster w h f) (y * w + x) (pos 0) (omega (arith, whole, mul-add-lt y w x h down across))
      (ap is_large (raster-at w f h x y (pos 0) across down) ∙ large_is (f x y) large)

-- ---- a slice

abbrev pub all_of : Coefficients → List ℤ
all_of s = s.y ++ s.c1 ++ s.c2

parts_of : (s : Coefficients) → list_any is_large (all_of s) ≡ ((list_any is_large s.y || list_any is_large s.c1) || list_any is_large s.c2)
parts_of s = list_any-append is_large (s.y ++ s.c1) s.c2 ∙ ap (λ (b : Bool). b || list_any is_large s.c2) (list_any-append is_large s.y s.c1)

pub slice_small : (s : Coefficients) → ((c : Component) → list_any is_large (coefficients_of s c) ≡ false) → list_any is_large (all_of s) ≡ false
slice_small s small = parts_of s ∙ (rw (small Y) (rw (small C1) (rw (small C2) refl)))

none_of : (a b d : Bool) → a ≡ false → b ≡ false → d ≡ false → ((a || b) || d) ≡ false
none_of a b d ea eb ed = rw ea (rw eb (rw ed refl))

first_of_three : (a b d : Bool) → a ≡ true → ((a || b) || d) ≡ true
first_of_three a b d e = rw e refl

second_of_three : (a b d : Bool) → b ≡ true → ((a || b) || d) ≡ true
second_of_three a b d e = rw e (rw (or-true a) refl)

third_of_three : (a b d : Bool) → d ≡ true → ((a || b) || d) ≡ true
third_of_three a b d e = rw e (or-true (a || b))

pub slice_large : (s : Coefficients) (c : Component) → list_any is_large (coefficients_of s c) ≡ true → list_any is_large (all_of s) ≡ true
slice_large s Y e = parts_of s ∙ first_of_three (list_any is_large s.y) (list_any is_large s.c1) (list_any is_large s.c2) e
slice_large s C1 e = parts_of s ∙ second_of_three (list_any is_large s.y) (list_any is_large s.c1) (list_any is_large s.c2) e
slice_large s C2 e = parts_of s ∙ third_of_three (list_any is_large s.y) (list_any is_large s.c1) (list_any is_large s.c2) e

-- ---- a picture

module _ (p : Parameters) (slices : List Coefficients) where
  abbrev in_slices : Bool
  in_slices = list_any (λ (s : Coefficients). list_any is_large (all_of s)) slices

  pub slices_small : ((n : ℕ) → n < length slices → list_any is_large (all_of (slice_index_or slices n no_coefficients)) ≡ false) → in_slices ≡ false
  slices_small small = list_any_none (λ (s : Coefficients). list_any is_large (all_of s)) slices
      (All-from_get_or (λ (s : Coefficients). list_any is_large (all_of s) ≡ false) slices no_coefficients small)

  pub picture_small : in_slices ≡ false → ((c : Component) → list_any is_large (lowest_values p c slices) ≡ false) → are_large p slices ≡ false
  picture_small none lowest = rw none (none_of (list_any is_large (lowest_values p Y slices)) (list_any is_large (lowest_values p C1 slices)) (list_any is_large (lowest_values p C2 slices)) (lowest Y) (lowest C1) (lowest C2))

  pub slice_is_large : (n : ℕ) (c : Component) → n < length slices → list_any is_large (coefficients_of (slice_index_or slices n no_coefficients) c) ≡ true → are_large p slices ≡ true
  slice_is_large n c below e =
      let any : in_slices ≡ true = list_any_at (λ (s : Coefficients). list_any is_large (all_of s)) slices n no_coefficients below (slice_large (slice_index_or slices n no_coefficients) c e) in
      rw any refl

  pub lowest_is_large : (c : Component) → list_any is_large (lowest_values p c slices) ≡ true → are_large p slices ≡ true
  lowest_is_large Y e = first_of_three (in_slices || list_any is_large (lowest_values p Y slices)) (list_any is_large (lowest_values p C1 slices)) (list_any is_large (lowest_values p C2 slices)) (rw e (or-true in_slices))
  lowest_is_large C1 e = second_of_three (in_slices || list_any is_large (lowest_values p Y slices)) (list_any is_large (lowest_values p C1 slices)) (list_any is_large (lowest_values p C2 slices)) e
  lowest_is_large C2 e = third_of_three (in_slices || list_any is_large (lowest_values p Y slices)) (list_any is_large (lowest_values p C1 slices)) (list_any is_large (lowest_values p C2 slices)) e

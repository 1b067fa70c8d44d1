-- The numbers of a slice, rectangle after rectangle.
use Rattle.std.proofs.Common.{◌≡◌, ℕ, ℤ, pos, ◌+◌, ◌<◌, List, [], ◌++◌, map, sym, ap, ◌∙◌}
use Rattle.std.specs.List.{range_with_len}
use Rattle.link_model.specs.SendingPictures.{number_at_place, numbers_in_slice}
use Rattle.picture_encode.specs.Grids.{rectangle_numbers}
use Rattle.picture_encode.proofs.Gathered.{range_parts, range_same}
use Rattle.vc_types.specs.declared.rect.Rect.{Rect}
use Rattle.vc_types.specs.declared.video.Component.{Component}
use Rattle.vc_types.specs.Quantisation.{subband_count}
use Rattle.vc_types.specs.Subbands.{area, place_in, coefficient_place}
use Rattle.vc_types.specs.TransformParameters.{Parameters}
use Rattle.vc_types.specs.Transforms.{Cells}
use Rattle.vc_types.proofs.RectangleWalk.{rectangle, walked}
use Rattle.vc_types.proofs.SliceRectangles.{coefficients_before, coefficients_before-none, coefficients_before-more, coefficients_before-all}

module _ (p : Parameters) (c : Component) (slice : ℕ) where
  abbrev number : Cells → ℕ → ℤ
  number cells i = number_at_place cells (coefficient_place p c slice i)

  -- the numbers in the rectangles before number b
  abbrev pub numbers_before : Cells → ℕ → List ℤ
  numbers_before cells b = map (number cells) (range_with_len 0 (coefficients_before p c slice b))

  pub none_before : (cells : Cells) → numbers_before cells 0 ≡ []
  none_before cells = ap (λ n. map (number cells) (range_with_len 0 n)) (coefficients_before-none p c slice)

  pub more_before : (cells : Cells) (b : ℕ) (r : Rect) → b < subband_count p.depth_ho p.depth → r ≡ rectangle p c slice b → numbers_before cells b ++ rectangle_numbers cells r ≡ numbers_before cells (b + 1)
  more_before cells b r inside same =
      let n = coefficients_before p c slice b in
      ap (λ (t : Rect). numbers_before cells b ++ rectangle_numbers cells t) same
      ∙ ap (λ l. numbers_before cells b ++ l) (range_same (pos 0) (λ j. number_at_place cells (place_in (rectangle p c slice b) j)) (λ j. number cells (n + j)) (area (rectangle p c slice b)) (λ j h. ap (λ place. number_at_place cells place) (sym (walked p c slice b inside j h))))
      ∙ sym (range_parts (number cells) n (area (rectangle p c slice b)))
      ∙ ap (λ m. map (number cells) (range_with_len 0 m)) (sym (coefficients_before-more p c slice b inside))

  pub all_before : (cells : Cells) (b : ℕ) → b ≡ subband_count p.depth_ho p.depth → numbers_before cells b ≡ numbers_in_slice p c cells slice
  unfolding numbers_in_slice
  all_before cells b last = ap (λ n. map (number cells) (range_with_len 0 n)) (coefficients_before-all p c slice b last)

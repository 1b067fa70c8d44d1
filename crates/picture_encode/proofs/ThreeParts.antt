-- The numbers of three components, one behind the other.
use Rattle.std.proofs.Common.{◌≡◌, ℕ, ◌+◌, List, ◌++◌, length, take, drop, ℤ, sym, ap, ◌∙◌, append_assoc}
use Rattle.std.proofs.Math.Seq.{take-append_seam, take-length, drop-append_seam, drop-append-add}
use Rattle.std.proofs.lemmas.List.FromFn.{length-map-range_with_len}
use Rattle.link_model.specs.SendingPictures.{number_at_place, numbers_in_slice}
use Rattle.vc_types.specs.declared.video.Component.{Component}
use Rattle.vc_types.specs.Subbands.{coefficient_place, padded_width, slice_coefficient_count}
use Rattle.vc_types.specs.TransformParameters.{Parameters}
use Rattle.vc_wave.specs.Layout.{nested_in}
use Rattle.vc_slice.specs.OneBlock.{three_parts}
use Rattle.picture_encode.specs.Grids.{narrow_numbers}

pub length-narrow : (p : Parameters) (c : Component) (cells : List ℤ) (slice : ℕ) → length (narrow_numbers p c cells slice) ≡ slice_coefficient_count p c slice
unfolding numbers_in_slice
length-narrow p c cells slice = length-map-range_with_len (λ i. number_at_place (nested_in p c (padded_width p c) cells) (coefficient_place p c slice i)) 0 (slice_coefficient_count p c slice)

module _ (of_y of_c : ℕ) (y c1 c2 : List ℤ) (long_y : length y ≡ of_y) (long_c1 : length c1 ≡ of_c) (long_c2 : length c2 ≡ of_c) where
  first : take of_y (y ++ (c1 ++ c2)) ≡ y
  first = ap (λ n. take n (y ++ (c1 ++ c2))) (sym long_y) ∙ take-append_seam y (c1 ++ c2)

  behind_y : drop of_y (y ++ (c1 ++ c2)) ≡ c1 ++ c2
  behind_y = ap (λ n. drop n (y ++ (c1 ++ c2))) (sym long_y) ∙ drop-append_seam y (c1 ++ c2)

  second : take of_c (drop of_y (y ++ (c1 ++ c2))) ≡ c1
  second = ap (take of_c) behind_y ∙ ap (λ n. take n (c1 ++ c2)) (sym long_c1) ∙ take-append_seam c1 c2

  third : take of_c (drop (of_y + of_c) (y ++ (c1 ++ c2))) ≡ c2
  third =
      ap (λ n. take of_c (drop (n + of_c) (y ++ (c1 ++ c2)))) (sym long_y)
      ∙ ap (take of_c) (drop-append-add y (c1 ++ c2) of_c ∙ ap (λ n. drop n (c1 ++ c2)) (sym long_c1) ∙ drop-append_seam c1 c2)
      ∙ ap (λ n. take n c2) (sym long_c2) ∙ take-length c2

  pub three_are : (all : List ℤ) → all ≡ y ++ c1 ++ c2 → three_parts of_y of_c of_c all ≡ record { y = y; c1 = c1; c2 = c2 }
  three_are all is = ap (three_parts of_y of_c of_c) (is ∙ append_assoc y c1 c2) ∙ (λ i. record { y = first i; c1 = second i; c2 = third i })

-- A slice's coefficients as its rectangles are walked, subband by subband.
use Rattle.std.proofs.Common.{◌≡◌, ℕ, zero, suc, ◌+◌, ◌-◌, ◌<◌, ◌≤◌, arith, refl, sym, subst, add-one}
use Rattle.vc_types.specs.declared.rect.Rect.{Rect}
use Rattle.vc_types.specs.declared.video.Component.{Component}
use Rattle.vc_types.specs.Quantisation.{subband_count}
use Rattle.vc_types.specs.Subbands.{subband_at, slice_rectangle, slice_coefficient_count, area, place_in, coefficient_place}
use Rattle.vc_types.specs.TransformParameters.{Parameters}
use Rattle.vc_types.proofs.SliceRectangles.{IsLeft, IsLeft-first, IsLeft-here, IsLeft-past, coefficients_before, coefficients_before-none, coefficients_before-more, coefficients_before-rest}

module _ (p : Parameters) (c : Component) (slice : ℕ) where
  abbrev pub rectangle : ℕ → Rect
  rectangle b = slice_rectangle p c (subband_at p.depth_ho p.depth b) slice

  left : (b j i : ℕ) → b ≤ subband_count p.depth_ho p.depth → i ≡ coefficients_before p c slice b + j → i < slice_coefficient_count p c slice → IsLeft p c slice i b j
  left zero j i h e below =
      let none = coefficients_before-none p c slice in
      subst (λ k. IsLeft p c slice i 0 k) (omega (arith, none)) (IsLeft-first p c slice i below)
  left (suc b) j i h e below =
      let inside : b < subband_count p.depth_ho p.depth = omega arith in
      let more : coefficients_before p c slice (suc b) ≡ coefficients_before p c slice b + area (rectangle b) = rw (← add-one) (coefficients_before-more p c slice b inside) in
      let before = left b (area (rectangle b) + j) i (omega arith) (omega (arith, more)) below in
      let next = IsLeft-past p c slice i b (area (rectangle b) + j) before inside (omega arith) in
      let back : area (rectangle b) + j - area (rectangle b) ≡ j = omega arith in
      subst (λ k. IsLeft p c slice i (suc b) k) back (rw (← add-one) next)

  module _ (b : ℕ) (inside : b < subband_count p.depth_ho p.depth) where
    pub walked-below : coefficients_before p c slice b + area (rectangle b) ≤ slice_coefficient_count p c slice
    walked-below =
        let more = coefficients_before-more p c slice b inside in
        let rest = coefficients_before-rest p c slice (b + 1) in
        omega (arith, more, rest)

    -- coefficient j of subband number b
    pub walked : (j : ℕ) → j < area (rectangle b) → coefficient_place p c slice (coefficients_before p c slice b + j) ≡ place_in (rectangle b) j
    walked j h =
        let at = left b j (coefficients_before p c slice b + j) (omega arith) refl (omega (arith, walked-below)) in
        sym (IsLeft-here p c slice (coefficients_before p c slice b + j) b j at inside h)

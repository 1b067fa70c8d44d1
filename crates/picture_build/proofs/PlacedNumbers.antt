-- A slice's coefficients that are put into cells subband by subband: none is written over.
use Rattle.std.proofs.Common.{◌≡◌, ◌≢◌, ℕ, ◌+◌, ◌<◌, ◌≤◌, List, ℤ, arith, ap, sym, subst, ◌∙◌}
use Rattle.std.proofs.lemmas.Nat.{same_from_place}
use Rattle.vc_types.specs.declared.rect.Rect.{Rect}
use Rattle.vc_types.specs.declared.video.Component.{Component}
use Rattle.vc_types.specs.Lifting.{line_of}
use Rattle.vc_types.specs.Subbands.{area, place_in, slice_count, slice_coefficient_count, coefficient_place, padded_width}
use Rattle.vc_types.specs.TransformParameters.{Parameters, parameters_of}
use Rattle.vc_geometry.proofs.CoefficientPlaces.{place-inside}
use Rattle.vc_slice.specs.declared.bands.SliceParts.{SliceParts}
use Rattle.vc_slice.specs.Bands.{band_count, coefficient_count, rectangle}
use Rattle.vc_geometry.proofs.Placements.{places-apart}
use Rattle.vc_types.proofs.RectangleCells.{same_place}
use Rattle.vc_types.proofs.RectangleWalk.{walked, walked-below}
use Rattle.vc_types.proofs.SliceCounts.{some_across, some_down}
use Rattle.vc_types.proofs.SliceRectangles.{coefficients_before, coefficients_before-more, coefficients_before-all}
use Rattle.vc_geometry.specs.CellRects.{cell_number}
use Rattle.vc_slice.proofs.FilledParts as filled
use Rattle.picture_build.specs.Kept.{kept_at}
use Rattle.picture_build.specs.PartsKept.{place_kept}

-- no two coefficients go to one cell
pub kept_apart : (p : Parameters) (c : Component) → 0 < p.slices_x → 0 < p.slices_y → (s i t j : ℕ) → s < slice_count p → i < slice_coefficient_count p c s → t < slice_count p → j < slice_coefficient_count p c t
    → kept_at p c s i ≡ kept_at p c t j → (s ≡ t) × (i ≡ j)
kept_apart p c across down s i t j hs hi ht hj e =
    let a = coefficient_place p c s i in
    let b = coefficient_place p c t j in
    let first = place-inside p c across s i hs hi in
    let second = place-inside p c across t j ht hj in
    let same = same_from_place a.1 a.0 b.1 b.0 (padded_width p c) first.0 second.0 e in
    places-apart p c across down s i t j hs hi ht hj (same_place a.0 a.1 b.0 b.1 same.1 same.0)

module _ (parts : SliceParts) (c : Component) where
  abbrev p : Parameters
  p = parameters_of parts.plan

  across : 0 < p.slices_x
  across = some_across parts.plan.slices_x parts.plan.slices_y parts.plan.slices

  down : 0 < p.slices_y
  down = some_down parts.plan.slices_x parts.plan.slices_y parts.plan.slices

  -- the first coefficients of the slice stand at their places
  abbrev pub FirstStand : (ℕ → ℤ) → ℕ → List ℤ → Type 0
  FirstStand = filled.FirstStand (coefficient_count parts c) (place_kept parts c)

  -- cells of none of the slice's coefficients are as before
  abbrev pub OthersStay : List ℤ → List ℤ → Type 0
  OthersStay = filled.OthersStay (coefficient_count parts c) (place_kept parts c)

  apart : (i j : ℕ) → i < coefficient_count parts c → j < coefficient_count parts c → place_kept parts c i ≡ place_kept parts c j → i ≡ j
  apart i j hi hj e = (kept_apart p c across down parts.slice i parts.slice j parts.in_plan hi parts.in_plan hj e).1

  -- a subband more
  module _ (b from : ℕ) (r : Rect) (inside : b < band_count parts) (is : r ≡ rectangle parts c b) (at : from ≡ coefficients_before p c parts.slice b) where
    pub subband_within : from + area r ≤ coefficient_count parts c
    subband_within = omega (arith, walked-below p c parts.slice b inside, ap area is, at)

    pub from_more : from + area r ≡ coefficients_before p c parts.slice (b + 1)
    from_more = omega (arith, coefficients_before-more p c parts.slice b inside, ap area is, at)

    module _ (stride : ℕ) (wide : stride ≡ padded_width p c) (coeffs : ℕ → ℤ) (old new : List ℤ)
        (on : (j : ℕ) → j < area r → line_of new (cell_number stride (place_in r j)) ≡ coeffs (from + j))
        (off : (k : ℕ) → ((j : ℕ) → j < area r → k ≢ cell_number stride (place_in r j)) → line_of new k ≡ line_of old k) where
      there : (j : ℕ) → j < area r → cell_number stride (place_in r j) ≡ place_kept parts c (from + j)
      there j h =
          ap (λ n. cell_number n (place_in r j)) wide
          ∙ ap (λ q. cell_number (padded_width p c) (place_in q j)) is
          ∙ ap (cell_number (padded_width p c)) (sym (walked p c parts.slice b inside j (subst (λ q. j < area q) is h)))
          ∙ ap (λ n. place_kept parts c (n + j)) (sym at)

      pub subband_stands : FirstStand coeffs from old → FirstStand coeffs (from + area r) new
      subband_stands = filled.part_stands (coefficient_count parts c) (place_kept parts c) apart from (area r) subband_within (λ j. cell_number stride (place_in r j)) there coeffs old new on off

      pub subband_stays : (first : List ℤ) → OthersStay first old → OthersStay first new
      subband_stays = filled.part_stays (coefficient_count parts c) (place_kept parts c) apart from (area r) subband_within (λ j. cell_number stride (place_in r j)) there coeffs old new on off

  pub all_stand : (b from : ℕ) (coeffs : ℕ → ℤ) (cells : List ℤ) → b ≡ band_count parts → from ≡ coefficients_before p c parts.slice b
      → FirstStand coeffs from cells → FirstStand coeffs (coefficient_count parts c) cells
  all_stand b from coeffs cells e at before i h = before i (omega (arith, coefficients_before-all p c parts.slice b e, at))

-- Where the coefficients of all slices stand: no two at one place, none outside the padded grid, each at its own place.
use Rattle.std.proofs.Common.{◌≡◌, ℕ, ◌<◌, refl, sym, ◌∙◌}
use Rattle.vc_types.specs.declared.video.Component.{Component}
use Rattle.vc_types.specs.Subbands.{slice_count, slice_coefficient_count, coefficient_place}
use Rattle.vc_types.specs.TransformParameters.{Parameters}
use Rattle.vc_types.proofs.PlacesMet.{met_once}
use Rattle.vc_geometry.proofs.CoefficientPlaces.{place-inside}

-- ---- places

module _ (p : Parameters) (c : Component) (some_across : 0 < p.slices_x) (some_down : 0 < p.slices_y) where
  -- no two coefficients have one place
  pub places-apart : (s i t j : ℕ) → s < slice_count p → i < slice_coefficient_count p c s → t < slice_count p → j < slice_coefficient_count p c t
      → coefficient_place p c s i ≡ coefficient_place p c t j → (s ≡ t) × (i ≡ j)
  places-apart s i t j hs hi ht hj e =
      let x = (coefficient_place p c t j).0 in
      let y = (coefficient_place p c t j).1 in
      let inside = place-inside p c some_across t j ht hj in
      let once = met_once p c x y some_across some_down inside.0 inside.1 in
      let first = once.only s i hs hi e in
      let second = once.only t j ht hj refl in
      (first.0 ∙ sym second.0, first.1 ∙ sym second.1)

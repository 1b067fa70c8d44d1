-- The coefficients of a slice stand inside the padded grid.
use Rattle.std.proofs.Common.{ℕ, ◌<◌, refl, inl, inr}
use Rattle.std.specs.Prelude.{nat_lt, ◌&&◌}
use Rattle.std.proofs.lemmas.Bool.{cases_Bool, and_parts, ltb-true}
use Rattle.vc_types.specs.declared.video.Component.{Component}
use Rattle.vc_types.specs.Subbands.{slice_count, slice_rectangles, slice_coefficient_count, coefficient_place, padded_width, padded_height}
use Rattle.vc_types.specs.TransformParameters.{Parameters}
use Rattle.vc_types.proofs.PlacesMet.{count-outside}
use Rattle.vc_types.proofs.RectangleLists.{none_numbered}

module _ (p : Parameters) (c : Component) (some_across : 0 < p.slices_x) where
  pub place-inside : (s i : ℕ) → s < slice_count p → i < slice_coefficient_count p c s → ((coefficient_place p c s i).0 < padded_width p c) × ((coefficient_place p c s i).1 < padded_height p c)
  unfolding slice_coefficient_count coefficient_place
  place-inside s i h below =
      let x = (coefficient_place p c s i).0 in
      let y = (coefficient_place p c s i).1 in
      elim (cases_Bool (nat_lt x (padded_width p c) && nat_lt y (padded_height p c))) [
        | inl t ↦ (let parts = and_parts (nat_lt x (padded_width p c)) (nat_lt y (padded_height p c)) t in (ltb-true x (padded_width p c) parts.0, ltb-true y (padded_height p c) parts.1))
        | inr f ↦ absurd (none_numbered (slice_rectangles p c s) x y (count-outside p c x y some_across s h f) i below refl)
      ]

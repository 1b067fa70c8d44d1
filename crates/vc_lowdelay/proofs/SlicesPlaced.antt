-- What the slices of a picture put into LL, and LL once all have.
use Rattle.std.proofs.Common.{◌≡◌, ℕ, ◌<◌, true, List, ℤ, sym, ap, subst, ◌∙◌, arith}
use Rattle.std.specs.List.{list_any}
use Rattle.vc_types.specs.declared.video.Component.{Component}
use Rattle.vc_types.specs.Lifting.{line_of}
use Rattle.vc_types.specs.Rasters.{Lattice}
use Rattle.vc_types.specs.Slices.{is_large}
use Rattle.vc_types.specs.Subbands.{slice_count}
use Rattle.vc_lowdelay.specs.Bands.{AreSmallValues, HasLargeValue, HasValues, IsGrown, value_in}
use Rattle.vc_lowdelay.specs.LowDelay.{LowParameters, LowSlice, are_large, low_coefficients, low_slices, predicted, slice_at}
use Rattle.vc_lowdelay.specs.Placed.{HasLargeIn, Places, coefficient_at}
use Rattle.vc_lowdelay.proofs.LowAnswers.{length-low_slices, low_coefficients_at, low_counts}
use Rattle.vc_lowdelay.proofs.PlacedValues.{FirstPlaced, all_small, values_of}
use Rattle.vc_lowdelay.proofs.PredictedValues.{is_grown, grows_large}
use Rattle.vc_lowdelay.proofs.Soundness.{slice_is_large}

module _ (p : LowParameters) (bytes : List ℕ) (n : ℕ) (numbered : n < slice_count p.parameters) (s : LowSlice) (is : s ≡ slice_at p bytes n) where
  pub own_placed : (c : Component) (old new : Lattice) → Places p.parameters c n (coefficient_at p.parameters n s c) old new → Places p.parameters c n (values_of (low_slices p bytes) c n) old new
  own_placed c old new placed =
      subst (λ (zs : List ℤ). Places p.parameters c n (line_of zs) old new)
      (ap (λ (t : LowSlice). low_coefficients p.parameters n t c) is ∙ sym (low_coefficients_at p bytes n c numbered)) placed

  pub slice_refuses : HasLargeIn p.parameters n s → are_large p.parameters (low_slices p bytes) ≡ true
  slice_refuses has =
      slice_is_large p.parameters (low_slices p bytes) n has.0 (omega (arith, numbered, length-low_slices p bytes))
      (ap (list_any is_large) (low_coefficients_at p bytes n has.0 numbered ∙ ap (λ (t : LowSlice). low_coefficients p.parameters n t has.0) (sym is)) ∙ has.1)

module _ (p : LowParameters) (bytes : List ℕ) (some_across : 0 < p.parameters.slices_x) (some_down : 0 < p.parameters.slices_y)
    (c : Component) (n : ℕ) (done : n ≡ slice_count p.parameters) (band : Lattice) (first : FirstPlaced p.parameters c (values_of (low_slices p bytes) c) n band) where
  all_in : FirstPlaced p.parameters c (values_of (low_slices p bytes) c) (slice_count p.parameters) band
  all_in = subst (λ (k : ℕ). FirstPlaced p.parameters c (values_of (low_slices p bytes) c) k band) done first

  pub is_ready : AreSmallValues band
  is_ready = all_small p.parameters c some_across some_down (low_slices p bytes) (length-low_slices p bytes) (low_counts p bytes c) band all_in

  pub has_grown : (new : Lattice) → new.width ≡ band.width → new.height ≡ band.height → HasValues (predicted (value_in band)) new → AreSmallValues new → IsGrown p.parameters c (low_slices p bytes) new
  has_grown = is_grown p.parameters c some_across some_down (low_slices p bytes) (length-low_slices p bytes) (low_counts p bytes c) band all_in

  pub growth_refuses : HasLargeValue (predicted (value_in band)) band → are_large p.parameters (low_slices p bytes) ≡ true
  growth_refuses = grows_large p.parameters c some_across some_down (low_slices p bytes) (length-low_slices p bytes) (low_counts p bytes c) band all_in

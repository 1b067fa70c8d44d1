-- A picture all of whose slices are sound, and whose LL grew, decodes.
use Rattle.std.proofs.Common.{◌≡◌, ℕ, ◌^◌, ◌<◌, ◌≤◌, false, List, length, ℤ, unsigned_abs, ap, subst, ◌∙◌, arith}
use Rattle.std.specs.Prelude.{slice_index_or}
use Rattle.std.specs.List.{list_any}
use Rattle.vc_types.specs.declared.video.Component.{Component}
use Rattle.vc_types.specs.declared.video.Component.TheVariants.{Y, C1, C2}
use Rattle.vc_types.specs.Pictures.{component_cells}
use Rattle.vc_types.specs.Rasters.{Lattice}
use Rattle.vc_types.specs.Slices.{Coefficients, is_large}
use Rattle.vc_types.specs.Subbands.{slice_count}
use Rattle.vc_types.specs.Transforms.{lowest_width, lowest_height}
use Rattle.picture_build.specs.Kept.{no_coefficients}
use Rattle.vc_lowdelay.specs.Bands.{IsGrown}
use Rattle.vc_lowdelay.specs.Decoded.{IsDecodable}
use Rattle.vc_lowdelay.specs.Grown.{IsSound}
use Rattle.vc_lowdelay.specs.LowDelay.{LowParameters, low_slice_start, low_slices, lowest_values, predicted, slice_at}
use Rattle.vc_lowdelay.proofs.GrownSlices.{AllGrown}
use Rattle.vc_lowdelay.proofs.LowAnswers.{length-low_slices, low_coefficients_at}
use Rattle.vc_lowdelay.proofs.Soundness.{all_of, lowest_small, picture_small, slice_small, slices_small}

module _ (p : LowParameters) (bytes : List ℕ) (y c1 c2 : Lattice) (grown : AllGrown p.parameters (low_slices p bytes) y c1 c2)
    (whole : low_slice_start p.numerator p.denominator (slice_count p.parameters) ≤ length bytes)
    (sound : (n : ℕ) → n < slice_count p.parameters → IsSound p.parameters n (slice_at p bytes n)) where
  abbrev slices : List Coefficients
  slices = low_slices p bytes

  band_fits : (c : Component) (band : Lattice) → IsGrown p.parameters c slices band → list_any is_large (lowest_values p.parameters c slices) ≡ false
  band_fits c band g =
      lowest_small (lowest_width p.parameters c) (lowest_height p.parameters c) (predicted (component_cells p.parameters c slices)) (λ a b ha hb. (
      let across : a < band.width = omega (arith, ha, g.size.width) in
      let down : b < band.height = omega (arith, hb, g.size.height) in
      subst (λ (z : ℤ). unsigned_abs z < 2 ^ 60) (g.values a b across down) (g.small a b across down)))

  bands_fit : (c : Component) → list_any is_large (lowest_values p.parameters c slices) ≡ false
  bands_fit Y = band_fits Y y grown.y_grown
  bands_fit C1 = band_fits C1 c1 grown.c1_grown
  bands_fit C2 = band_fits C2 c2 grown.c2_grown

  slice_fits : (n : ℕ) → n < length slices → list_any is_large (all_of (slice_index_or slices n no_coefficients)) ≡ false
  slice_fits n h =
      let numbered : n < slice_count p.parameters = omega (arith, h, length-low_slices p bytes) in
      slice_small (slice_index_or slices n no_coefficients) (λ c. ap (list_any is_large) (low_coefficients_at p bytes n c numbered) ∙ sound n numbered c)

  pub decodable : IsDecodable p bytes
  decodable = record {
    whole = whole;
    small = picture_small p.parameters slices (slices_small p.parameters slices slice_fits) bands_fit;
  }

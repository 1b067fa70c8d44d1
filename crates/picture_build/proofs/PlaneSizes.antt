-- The planes of a picture have the sizes of its shape, and their samples have its bits.
use Rattle.std.proofs.Common.{◌≡◌, ℕ, ◌^◌, ◌<◌, ◌≤◌, List, All, refl, arith}
use Rattle.std.specs.Prelude.{IsTrue}
use Rattle.std.proofs.lemmas.Bool.Decides.{nat_tests}
use Rattle.vc_types.specs.declared.video.Component.{Component}
use Rattle.vc_types.specs.declared.video.Component.TheVariants.{Y, C1, C2}
use Rattle.vc_types.specs.declared.shape.Shape.{Shape}
use Rattle.vc_types.specs.Limits.{shape_fits}
use Rattle.vc_types.specs.Pictures.{component_cells}
use Rattle.vc_types.specs.Planes.{component_plane, output_sample}
use Rattle.vc_types.specs.Slices.{Coefficients}
use Rattle.vc_types.specs.Subbands.{plane_width, plane_height, plane_depth}
use Rattle.vc_types.specs.TransformParameters.{Parameters}
use Rattle.vc_types.specs.Transforms.{inverse_transform}
use Rattle.picture_build.proofs.RasterLists.{raster-all}
use Rattle.picture_build.proofs.Samples.{output_sample-below}

module _ (p : Parameters) (c : Component) (slices : List Coefficients) where
  pub component_plane-width : (component_plane p c slices).width ≡ plane_width p.shape c
  unfolding component_plane
  component_plane-width = refl

  pub component_plane-height : (component_plane p c slices).height ≡ plane_height p.shape c
  unfolding component_plane
  component_plane-height = refl

  samples-below : 1 ≤ plane_depth p.shape c → All (λ s. s < 2 ^ plane_depth p.shape c) (component_plane p c slices).samples
  unfolding component_plane
  samples-below some =
      let sample = λ (x y : ℕ). output_sample (plane_depth p.shape c) (inverse_transform p c (component_cells p c slices) x y) in
      raster-all (plane_width p.shape c) sample (plane_height p.shape c) (λ s. s < 2 ^ plane_depth p.shape c) 0 (λ x y. output_sample-below (plane_depth p.shape c) (inverse_transform p c (component_cells p c slices) x y) some)

  some_bits : (s : Shape) (c : Component) → IsTrue (shape_fits s) → 1 ≤ plane_depth s c
  some_bits s Y fits = grind (arith, nat_tests)
  some_bits s C1 fits = grind (arith, nat_tests)
  some_bits s C2 fits = grind (arith, nat_tests)

  -- each sample is below 2 ^ depth
  pub component_plane-samples : IsTrue (shape_fits p.shape) → All (λ s. s < 2 ^ plane_depth p.shape c) (component_plane p c slices).samples
  component_plane-samples fits = samples-below (some_bits p.shape c fits)

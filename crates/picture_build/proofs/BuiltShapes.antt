-- The planes of a picture that was built have its shape.
use Rattle.std.proofs.Common.{◌≡◌, ℕ, ◌<◌, ◌≤◌, ◌^◌, List, false, subst, arith}
use Rattle.std.specs.Prelude.{IsTrue}
use Rattle.std.proofs.Math.Pow.{pow_mono}
use Rattle.std.proofs.lemmas.Bool.Decides.{nat_tests}
use Rattle.frame_writer.specs.Samples.{FitBytes}
use Rattle.vc_types.specs.RawFrames.{is_wide}
use Rattle.picture_build.proofs.PlaneSizes.{component_plane-width, component_plane-height, component_plane-samples}
use Rattle.vc_types.specs.Limits.{shape_fits}
use Rattle.vc_types.specs.Planes.{component_plane, planes_of}
use Rattle.vc_types.specs.Slices.{Coefficients}
use Rattle.vc_types.specs.Subbands.{plane_depth}
use Rattle.vc_types.specs.TransformParameters.{Parameters}
use Rattle.vc_types.specs.declared.shape.Shape.{Shape}
use Rattle.vc_types.specs.declared.video.Component.{Component}
use Rattle.vc_types.specs.declared.video.Component.TheVariants.{Y, C1, C2}
use Rattle.frame_writer.specs.Shapes.{HaveShape}

below_byte : (depth sample : ℕ) → depth ≤ 8 → sample < 2 ^ depth → sample < 256
below_byte depth sample narrow below = omega (arith, pow_mono narrow)

narrow_depth : (shape : Shape) (c : Component) → is_wide shape ≡ false → plane_depth shape c ≤ 8
narrow_depth shape Y narrow = grind (arith, nat_tests)
narrow_depth shape C1 narrow = grind (arith, nat_tests)
narrow_depth shape C2 narrow = grind (arith, nat_tests)

module _ (p : Parameters) (slices : List Coefficients) (fits : IsTrue (shape_fits p.shape)) where
  component_fits : (c : Component) → is_wide p.shape ≡ false
      → FitBytes (component_plane p c slices).samples
  component_fits c narrow i d below = below_byte (plane_depth p.shape c) _
      (narrow_depth p.shape c narrow) (component_plane-samples p c slices fits i d below)

  pub own_shape : HaveShape p.shape (planes_of p slices)
  own_shape = record {
    y = record {
      width = component_plane-width p Y slices;
      height = component_plane-height p Y slices;
    };
    c1 = record {
      width = component_plane-width p C1 slices;
      height = component_plane-height p C1 slices;
    };
    c2 = record {
      width = component_plane-width p C2 slices;
      height = component_plane-height p C2 slices;
    };
    narrow = λ narrow. record {
      y = component_fits Y narrow;
      c1 = component_fits C1 narrow;
      c2 = component_fits C2 narrow;
    };
  }

  -- where the parameters are of this shape
  pub built-shape : (shape : Shape) → p.shape ≡ shape → HaveShape shape (planes_of p slices)
  built-shape shape same = subst (λ (s : Shape). HaveShape s (planes_of p slices)) same own_shape

-- The planes of a sequence's pictures: fields of it can be woven, and narrow samples fit a byte.
use Rattle.std.proofs.Common.{◌≡◌, true, false, List, refl, ap, sym, subst, ◌∙◌}
use Rattle.std.specs.Prelude.{IsTrue}
use Rattle.field_pairs.specs.Sizes.{HaveEqualSizes, HaveHeightsUpTo}
use Rattle.picture_build.proofs.BuiltShapes.{built-shape}
use Rattle.picture_build.proofs.Weaving.{low_fields}
use Rattle.frame_writer.specs.Samples.{HaveByteSamples}
use Rattle.receiver_model.specs.WholeBooks.{ArePicturePlanes}
use Rattle.picture_build.proofs.PlaneSizes.{component_plane-width, component_plane-height}
use Rattle.vc_types.specs.Limits.{shape_fits}
use Rattle.vc_types.specs.Planes.{Planes, planes_of, component_plane}
use Rattle.vc_types.specs.Rasters.{Raster}
use Rattle.vc_types.specs.RawFrames.{is_wide}
use Rattle.vc_types.specs.SequenceHeader.{Sequence, picture_shape}
use Rattle.vc_types.specs.Slices.{Coefficients}
use Rattle.vc_types.specs.Subbands.{plane_width, plane_height}
use Rattle.vc_types.specs.TransformParameters.{Parameters}
use Rattle.vc_types.specs.Video.{dimensions_fit}
use Rattle.vc_types.specs.declared.shape.Shape.{Shape}
use Rattle.vc_types.specs.declared.video.Component.{Component}
use Rattle.vc_types.specs.declared.video.Component.TheVariants.{Y, C1, C2}

abbrev plane_in : Component → Planes → Raster
plane_in Y planes = planes.y
plane_in C1 planes = planes.c1
plane_in C2 planes = planes.c2

plane_of_component : (p : Parameters) (slices : List Coefficients) (c : Component)
    → plane_in c (planes_of p slices) ≡ component_plane p c slices
plane_of_component p slices Y = refl
plane_of_component p slices C1 = refl
plane_of_component p slices C2 = refl

-- ---- sizes

module _ (s : Sequence) (planes : Planes) (are : ArePicturePlanes s planes) where
  abbrev parameters : Parameters
  parameters = are.parameters

  plane_is : (c : Component) → plane_in c planes ≡ component_plane parameters c are.slices
  plane_is c = ap (plane_in c) are.are ∙ plane_of_component parameters are.slices c

  width_is : (c : Component) → (plane_in c planes).width ≡ plane_width (picture_shape s) c
  width_is c =
      ap (λ (plane : Raster). plane.width) (plane_is c)
      ∙ component_plane-width parameters c are.slices
      ∙ ap (λ (shape : Shape). plane_width shape c) are.shape

  height_is : (c : Component) → (plane_in c planes).height ≡ plane_height (picture_shape s) c
  height_is c =
      ap (λ (plane : Raster). plane.height) (plane_is c)
      ∙ component_plane-height parameters c are.slices
      ∙ ap (λ (shape : Shape). plane_height shape c) are.shape

-- two pictures of a sequence
pub equal_sizes : (s : Sequence) (a b : Planes) → ArePicturePlanes s a → ArePicturePlanes s b
    → HaveEqualSizes a b
equal_sizes s a b of_a of_b = record {
  y = record {
    width = width_is s a of_a Y ∙ sym (width_is s b of_b Y);
    height = height_is s a of_a Y ∙ sym (height_is s b of_b Y);
  };
  c1 = record {
    width = width_is s a of_a C1 ∙ sym (width_is s b of_b C1);
    height = height_is s a of_a C1 ∙ sym (height_is s b of_b C1);
  };
  c2 = record {
    width = width_is s a of_a C2 ∙ sym (width_is s b of_b C2);
    height = height_is s a of_a C2 ∙ sym (height_is s b of_b C2);
  };
}

pub field_heights : (s : Sequence) (planes : Planes)
    → IsTrue (dimensions_fit s.width s.height s.sampling s.fields) → s.fields ≡ true
    → ArePicturePlanes s planes → HaveHeightsUpTo 4096 planes
field_heights s planes fits fields are = low_fields s planes fits fields
    (height_is s planes are Y) (height_is s planes are C1) (height_is s planes are C2)

-- narrow samples
pub planes_fit : (s : Sequence) (planes : Planes) → ArePicturePlanes s planes
    → IsTrue (shape_fits (picture_shape s)) → is_wide (picture_shape s) ≡ false
    → HaveByteSamples planes
planes_fit s planes are fits narrow =
    let own : IsTrue (shape_fits are.parameters.shape) =
    subst (λ (shape : Shape). IsTrue (shape_fits shape)) (sym are.shape) fits in
    let built = built-shape are.parameters are.slices own (picture_shape s) are.shape in
    subst HaveByteSamples (sym are.are) (built.narrow narrow)

-- The pictures of a frame whose samples are in range: they can be transformed.
use Rattle.std.proofs.Common.{◌≡◌, ℕ, ◌+◌, ◌*◌, ◌/◌, ◌%◌, ◌^◌, ◌<◌, Bool, true, false, cond, List, [], ◌∷◌, None, refl, sym, ap, subst, ◌∙◌, arith, All, IsTrue, pow_pos}
use Rattle.std.proofs.lemmas.Bool.Decides.{nat_tests}
use Rattle.std.proofs.lemmas.Grind.{common_steps}
use Rattle.field_pairs.specs.Sizes.{HaveEvenHeights}
use Rattle.link_model.specs.Sending.{pictures_of}
use Rattle.link_model.specs.SendingFaults.{first_sample_fault, plane_fault}
use Rattle.link_model.specs.SendingPictures.{IsFrame, sent_parameters, sent_sequence}
use Rattle.link_sender.proofs.SentFrames.{all_below, item_below, none_first, none_second, raster_below, unmapped}
use Rattle.picture_encode.specs.Shapes.{CanBeTransformed}
use Rattle.vc_types.specs.declared.settings.SendSettings.{SendSettings}
use Rattle.vc_types.specs.declared.video.Component.{Component}
use Rattle.vc_types.specs.declared.video.Component.TheVariants.{Y, C1, C2}
use Rattle.vc_types.specs.declared.video.Sampling.{Sampling}
use Rattle.vc_types.specs.FieldPairs.{every_other_row, fields_of, on_each}
use Rattle.vc_types.specs.Planes.{Planes}
use Rattle.vc_types.specs.Rasters.{Raster, sample_at}
use Rattle.vc_types.specs.SenderSettings.{Sending, sending_view}
use Rattle.vc_types.specs.SequenceHeader.{picture_shape}
use Rattle.vc_types.specs.Subbands.{plane_depth}
use Rattle.vc_types.specs.TransformParameters.{Parameters, is_symmetric}
use Rattle.vc_types.specs.Video.{colour_height, dimensions_fit, sampling_fits}

-- ---- samples in range

module _ (limit : ℕ) (some : 0 < limit) where
  abbrev Small : List ℕ → Type 0
  Small samples = All (λ v. v < limit) samples

  pub field_small : (first : ℕ) (plane : Raster) → Small plane.samples → Small (every_other_row first plane).samples
  unfolding every_other_row sample_at
  field_small first plane small =
      raster_below limit (λ x y. sample_at plane x (2 * y + first))
      (λ x y. item_below limit plane.samples ((2 * y + first) * plane.width + x) some small)
      plane.width (plane.height / 2)

-- ---- heights

pub record AreEven (a b : ℕ) : Type 0 where
  pub luma : a % 2 ≡ 0
  pub colour : b % 2 ≡ 0

even_sides : (width height : ℕ) (sampling : Sampling) → sampling_fits width height sampling true ≡ true → AreEven height (colour_height sampling height)
even_sides width height sampling fits = grind (arith, nat_tests)

even_frame : (width height : ℕ) (sampling : Sampling) (fields : Bool) → fields ≡ true → IsTrue (dimensions_fit width height sampling fields) → AreEven height (colour_height sampling height)
even_frame width height sampling fields are fits = grind (arith, nat_tests, even_sides)

pub even_heights : (settings : SendSettings) (frame : Planes) → IsFrame (sending_view settings) frame → settings.fields ≡ true → HaveEvenHeights frame
even_heights settings frame is fields = grind (arith, common_steps, even_frame)

-- ---- pictures

module _ (s : Sending) (frame : Planes) (is : IsFrame s frame) (sound : first_sample_fault s frame ≡ None) where
  abbrev p : Parameters
  p = sent_parameters s

  abbrev depth : Component → ℕ
  depth c = plane_depth p.shape c

  abbrev InRange : Component → Raster → Type 0
  InRange c plane = All (λ v. v < 2 ^ depth c) plane.samples

  in_range : (c : Component) (plane : Raster) (number : ℕ) → plane_fault (depth c) number plane ≡ None → InRange c plane
  in_range c plane number none = grind (arith, all_below, unmapped)

  record AreInRange : Type 0 where
    y : InRange Y frame.y
    c1 : InRange C1 frame.c1
    c2 : InRange C2 frame.c2

  are_in_range : AreInRange
  unfolding first_sample_fault
  are_in_range = record {
    y = in_range Y frame.y 0 (grind (arith, none_first));
    c1 = in_range C1 frame.c1 1 (grind (arith, none_first, none_second));
    c2 = in_range C2 frame.c2 2 (grind (arith, none_second));
  }

  symmetric : IsTrue (is_symmetric p)
  unfolding sent_parameters
  symmetric = grind arith

  pub whole_frame : s.frames.fields ≡ false → CanBeTransformed p frame
  unfolding sent_parameters sent_sequence picture_shape
  whole_frame fields = grind (arith, common_steps, are_in_range, symmetric)

  one_field : (first : ℕ) → s.frames.fields ≡ true → CanBeTransformed p (on_each (every_other_row first) frame)
  unfolding sent_parameters sent_sequence picture_shape every_other_row
  one_field first fields =
      let range = are_in_range in
      let colour = colour_height s.frames.sampling s.frames.height in
      record {
        symmetric = symmetric;
        each = elim [
          | Y ↦ record { width = is.y.width; height = ap (λ n. n / 2) is.y.height ∙ ap (λ b. cond b (s.frames.height / 2) s.frames.height) (sym fields); samples = field_small (2 ^ depth Y) (pow_pos (depth Y)) first frame.y range.y }
          | C1 ↦ record { width = is.c1.width; height = ap (λ n. n / 2) is.c1.height ∙ ap (λ b. cond b (colour / 2) colour) (sym fields); samples = field_small (2 ^ depth C1) (pow_pos (depth C1)) first frame.c1 range.c1 }
          | C2 ↦ record { width = is.c2.width; height = ap (λ n. n / 2) is.c2.height ∙ ap (λ b. cond b (colour / 2) colour) (sym fields); samples = field_small (2 ^ depth C2) (pow_pos (depth C2)) first frame.c2 range.c2 }
        ];
      }

  earlier_of : (top : Bool) → s.frames.fields ≡ true → CanBeTransformed p (fields_of top frame).0
  earlier_of = elim [ true ↦ one_field 0 | false ↦ one_field 1 ]

  later_of : (top : Bool) → s.frames.fields ≡ true → CanBeTransformed p (fields_of top frame).1
  later_of = elim [ true ↦ one_field 1 | false ↦ one_field 0 ]

  module _ (earlier later : Planes) (fields : s.frames.fields ≡ true) (are : (earlier, later) ≡ fields_of s.frames.top frame) where
    pub earlier_can : CanBeTransformed p earlier
    earlier_can = subst (λ (a : Planes). CanBeTransformed p a) (ap (λ (a : Planes × Planes). a.0) (sym are)) (earlier_of s.frames.top fields)

    pub later_can : CanBeTransformed p later
    later_can = subst (λ (a : Planes). CanBeTransformed p a) (ap (λ (a : Planes × Planes). a.1) (sym are)) (later_of s.frames.top fields)

    pub two_pictures : pictures_of s frame ≡ earlier ∷ later ∷ []
    unfolding pictures_of
    two_pictures = rw fields (λ i. (sym are i).0 ∷ (sym are i).1 ∷ [])

  pub one_picture : s.frames.fields ≡ false → pictures_of s frame ≡ frame ∷ []
  unfolding pictures_of
  one_picture fields = rw fields refl

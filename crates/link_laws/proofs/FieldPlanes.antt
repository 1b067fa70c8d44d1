-- The pictures of a frame without a fault are pictures without a fault.
use Rattle.std.proofs.Common.{◌≡◌, ◌<◌, ℕ, ◌+◌, ◌*◌, ◌/◌, ◌%◌, ◌^◌, Bool, true, false, List, [], ◌∷◌, map, get_or, None, sym, ap, ◌∙◌, arith, All, pow_pos}
use Rattle.std.specs.List.{flat_map, range_with_len}
use Rattle.std.specs.Option.{option_map}
use Rattle.std.proofs.lemmas.Bool.{cond-true}
use Rattle.std.proofs.lemmas.Bool.Decides.{nat_tests}
use Rattle.std.proofs.lemmas.List.Elements.{All-append, All-nil, All-map}
use Rattle.field_pairs.specs.Sizes.{IsWhole, AreWhole, HaveEvenHeights}
use Rattle.field_pairs.proofs.RowsOfRasters.{length-raster}
use Rattle.link_sender.proofs.SentFrames.{none_outside, unmapped}
use Rattle.link_laws.proofs.SentStream.{neither, all_inside}
use Rattle.link_model.specs.SendingFaults.{first_outside, plane_fault, sample_fault, first_sample_fault}
use Rattle.link_model.specs.SendingPictures.{HasSides, IsFrame, plane_in, sent_sequence, sent_parameters}
use Rattle.vc_types.specs.declared.settings.SendSettings.{SendSettings}
use Rattle.vc_types.specs.declared.video.Component.{Component}
use Rattle.vc_types.specs.declared.video.Component.TheVariants.{Y, C1, C2}
use Rattle.vc_types.specs.declared.video.Sampling.{Sampling}
use Rattle.vc_types.specs.FieldPairs.{every_other_row, on_each}
use Rattle.vc_types.specs.Planes.{Planes}
use Rattle.vc_types.specs.Rasters.{Raster, raster, sample_at}
use Rattle.vc_types.specs.SenderSettings.{Sending, sending_view}
use Rattle.vc_types.specs.SequenceHeader.{picture_shape}
use Rattle.vc_types.specs.Subbands.{plane_width, plane_height}
use Rattle.vc_types.specs.Video.{colour_width, colour_height, dimensions_fit, picture_height}

-- ---- samples

all_mapped : (P : ℕ → Type 0) (f : ℕ → ℕ) (xs : List ℕ) → ((x : ℕ) → P (f x)) → All P (map f xs)
all_mapped P f xs each = All-map P f xs (λ k d h. each (get_or xs k d))

all_flat : (P : ℕ → Type 0) (g : ℕ → List ℕ) (ys : List ℕ) → ((y : ℕ) → All P (g y)) → All P (flat_map g ys)
all_flat P g [] each = All-nil P
all_flat P g (y ∷ ys) each = All-append P (g y) (flat_map g ys) (each y) (all_flat P g ys each)

all_raster : (P : ℕ → Type 0) (width height : ℕ) (f : ℕ → ℕ → ℕ) → ((x y : ℕ) → P (f x y)) → All P (raster width height f)
unfolding raster
all_raster P width height f each = all_flat P (λ y. map (λ x. f x y) (range_with_len 0 width)) (range_with_len 0 height) (λ y. all_mapped P (λ x. f x y) (range_with_len 0 width) (λ x. each x y))

rows_sound : (limit first : ℕ) (plane : Raster) → 0 < limit → first_outside limit 0 plane.samples ≡ None → first_outside limit 0 (every_other_row first plane).samples ≡ None
unfolding every_other_row sample_at
rows_sound limit first plane some none = none_outside limit 0 (raster plane.width (plane.height / 2) (λ x y. sample_at plane x (2 * y + first)))
    (all_raster (λ k. k < limit) plane.width (plane.height / 2) (λ x y. sample_at plane x (2 * y + first)) (λ x y. (all_inside limit 0 plane.samples some none ((2 * y + first) * plane.width + x))))

rows_whole : (first : ℕ) (plane : Raster) → IsWhole (every_other_row first plane)
unfolding every_other_row
rows_whole first plane = length-raster plane.width (plane.height / 2) (λ x y. sample_at plane x (2 * y + first))

rows_sides : (first across down : ℕ) (plane : Raster) → HasSides across down plane → HasSides across (down / 2) (every_other_row first plane)
unfolding every_other_row
rows_sides first across down plane is = record { width = is.width; height = ap (λ (n : ℕ). n / 2) is.height }

plane_rows_sound : (depth plane first : ℕ) (r : Raster) → plane_fault depth plane r ≡ None → plane_fault depth plane (every_other_row first r) ≡ None
plane_rows_sound depth plane first r none = ap (option_map (sample_fault plane)) (rows_sound (2 ^ depth) first r (pow_pos depth) (unmapped (sample_fault plane) (first_outside (2 ^ depth) 0 r.samples) none))

-- ---- a field

module _ (s : Sending) (frame : Planes) (first : ℕ) where
  abbrev field : Planes
  field = on_each (every_other_row first) frame

  pub field_samples : first_sample_fault s frame ≡ None → first_sample_fault s field ≡ None
  unfolding first_sample_fault
  field_samples none = grind (arith, neither, plane_rows_sound)

  pub field_whole : AreWhole field
  field_whole = record { y = rows_whole first frame.y; c1 = rows_whole first frame.c1; c2 = rows_whole first frame.c2 }

  sides_as : (across down high : ℕ) (plane : Raster) → high ≡ down → HasSides across high plane → HasSides across down plane
  sides_as across down high plane same is = record { width = is.width; height = is.height ∙ same }

  halved : (fields : Bool) (n : ℕ) → fields ≡ true → n / 2 ≡ picture_height fields n
  halved fields n is = sym (cond-true fields (n / 2) n is)

  pub field_sides : s.frames.fields ≡ true → IsFrame s frame → (c : Component) → HasSides (plane_width (sent_parameters s).shape c) (plane_height (sent_parameters s).shape c) (plane_in field c)
  unfolding sent_parameters sent_sequence picture_shape
  field_sides fields is Y = sides_as _ _ _ field.y (halved s.frames.fields s.frames.height fields) (rows_sides first s.frames.width s.frames.height frame.y is.y)
  field_sides fields is C1 = sides_as _ _ _ field.c1 (halved s.frames.fields (colour_height s.frames.sampling s.frames.height) fields) (rows_sides first (colour_width s.frames.sampling s.frames.width) (colour_height s.frames.sampling s.frames.height) frame.c1 is.c1)
  field_sides fields is C2 = sides_as _ _ _ field.c2 (halved s.frames.fields (colour_height s.frames.sampling s.frames.height) fields) (rows_sides first (colour_width s.frames.sampling s.frames.width) (colour_height s.frames.sampling s.frames.height) frame.c2 is.c2)

-- ---- a frame that is a picture

pub frame_sides : (s : Sending) (frame : Planes) → s.frames.fields ≡ false → IsFrame s frame → (c : Component) → HasSides (plane_width (sent_parameters s).shape c) (plane_height (sent_parameters s).shape c) (plane_in frame c)
unfolding sent_parameters sent_sequence picture_shape
frame_sides s frame fields is c = grind arith

-- ---- the rows of a frame with field coding

even_colour : (width height : ℕ) (sampling : Sampling) → dimensions_fit width height sampling true ≡ true → colour_height sampling height % 2 ≡ 0
even_colour width height sampling h = grind (arith, nat_tests)

pub even_rows : (settings : SendSettings) (frame : Planes) → settings.fields ≡ true → IsFrame (sending_view settings) frame → HaveEvenHeights frame
even_rows settings frame fields is = grind (arith, even_colour, nat_tests)

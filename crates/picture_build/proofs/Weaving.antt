-- Fields that can be woven, and the samples of their frame.
use Rattle.std.proofs.Common.{◌≡◌, ℕ, ◌*◌, ◌/◌, ◌%◌, ◌+◌, ◌<◌, ◌≤◌, Bool, true, false, length, arith, inl, inr}
use Rattle.std.specs.Prelude.{IsTrue, ◌==◌, ◌&&◌, if◌then◌else◌}
use Rattle.std.proofs.lemmas.Bool.{and_parts, cases_lt}
use Rattle.std.proofs.lemmas.List.{get_or_past}
use Rattle.field_pairs.specs.Sizes.{HaveHeightsUpTo}
use Rattle.frame_writer.specs.Samples.{FitBytes, HaveByteSamples}
use Rattle.vc_types.specs.FieldPairs.{interleaved_rows, of_each, woven}
use Rattle.picture_build.proofs.RasterLists.{raster-all}
use Rattle.vc_types.specs.Planes.{Planes}
use Rattle.vc_types.specs.Rasters.{Raster, sample_at}
use Rattle.vc_types.specs.SequenceHeader.{Sequence, picture_shape}
use Rattle.vc_types.specs.Video.{side_fits, sampling_fits, dimensions_fit, picture_height, colour_height}
use Rattle.vc_types.specs.declared.video.Sampling.{Sampling}
use Rattle.vc_types.specs.declared.video.Sampling.TheVariants.{S444, S422, S420}
use Rattle.vc_types.proofs.PictureShapes.{side_is}
use Rattle.frame_writer.specs.Shapes.{HaveShape}

-- ---- heights of fields

colour_low : (sampling : Sampling) (height : ℕ) → height ≤ 8192 → colour_height sampling height ≤ 8192
colour_low S444 height low = low
colour_low S422 height low = low
colour_low S420 height low = omega (arith, low)

field_low : (fields : Bool) (height : ℕ) → fields ≡ true → height ≤ 8192
    → picture_height fields height ≤ 4096
field_low fields height is low = rw is (omega (arith, low))

-- by the heights of the planes
pub low_fields : (s : Sequence) (planes : Planes)
    → IsTrue (dimensions_fit s.width s.height s.sampling s.fields) → s.fields ≡ true
    → planes.y.height ≡ (picture_shape s).luma_height
    → planes.c1.height ≡ (picture_shape s).colour_height
    → planes.c2.height ≡ (picture_shape s).colour_height
    → HaveHeightsUpTo 4096 planes
unfolding picture_shape
low_fields s planes fits fields luma_is first_is second_is =
    let tests = and_parts (side_fits s.width && side_fits s.height)
    (sampling_fits s.width s.height s.sampling s.fields) fits in
    let sides = and_parts (side_fits s.width) (side_fits s.height) tests.0 in
    let height = (side_is s.height sides.1).most in
    let luma = field_low s.fields s.height fields height in
    let colour = field_low s.fields (colour_height s.sampling s.height) fields
    (colour_low s.sampling s.height height) in
    record {
      y = omega (arith, luma_is, luma);
      c1 = omega (arith, first_is, colour);
      c2 = omega (arith, second_is, colour);
    }

pub field_heights : (s : Sequence) (planes : Planes)
    → IsTrue (dimensions_fit s.width s.height s.sampling s.fields) → s.fields ≡ true
    → HaveShape (picture_shape s) planes → HaveHeightsUpTo 4096 planes
field_heights s planes fits fields shape =
    low_fields s planes fits fields shape.y.height shape.c1.height shape.c2.height

-- ---- samples of frames

sample_fits : (plane : Raster) (x y : ℕ) → FitBytes plane.samples → sample_at plane x y < 256
unfolding sample_at
sample_fits plane x y fits = elim (cases_lt (y * plane.width + x) (length plane.samples)) [
  | inl within ↦ fits (y * plane.width + x) 0 within
  | inr past ↦ rw (get_or_past plane.samples (y * plane.width + x) 0 past) (omega arith)
]

either_fits : (even : Bool) (a b : Raster) (x y : ℕ) → FitBytes a.samples → FitBytes b.samples
    → sample_at (if even then a else b) x y < 256
either_fits true a b x y f g = sample_fits a x y f
either_fits false a b x y f g = sample_fits b x y g

rows_fit : (a b : Raster) → FitBytes a.samples → FitBytes b.samples
    → FitBytes (interleaved_rows a b).samples
unfolding interleaved_rows
rows_fit a b f g =
    raster-all a.width (λ x y. sample_at (if y % 2 == 0 then a else b) x (y / 2)) (2 * a.height)
    (λ s. s < 256) 0 (λ x y. either_fits (y % 2 == 0) a b x (y / 2) f g)

each_fits : (a b : Planes) → HaveByteSamples a → HaveByteSamples b
    → HaveByteSamples (of_each interleaved_rows a b)
each_fits a b f g = record {
  y = rows_fit a.y b.y f.y g.y;
  c1 = rows_fit a.c1 b.c1 f.c1 g.c1;
  c2 = rows_fit a.c2 b.c2 f.c2 g.c2;
}

pub woven_fits : (top_first : Bool) (a b : Planes) → HaveByteSamples a → HaveByteSamples b
    → HaveByteSamples (woven top_first a b)
woven_fits true a b f g = each_fits a b f g
woven_fits false a b f g = each_fits b a g f

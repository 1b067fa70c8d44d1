-- A released frame fits bytes where its pictures do.
use Rattle.std.proofs.Common.{◌≡◌, ℕ, ◌%◌, ◌+◌, Bool, true, false, List, Option, Some, None, cond, sym, subst}
use Rattle.std.specs.Prelude.{IsTrue, IfSome, ◌==◌}
use Rattle.std.specs.Option.{option_map}
use Rattle.picture_build.proofs.Weaving.{woven_fits}
use Rattle.frame_writer.specs.Samples.{HaveByteSamples}
use Rattle.link_model.specs.Output.{woven_fields}
use Rattle.receiver_model.specs.Receptions.{FirstField}
use Rattle.receiver_model.specs.Releasing.{field_before, released_frame}
use Rattle.receiver_model.specs.WholeBooks.{ArePicturePlanes}
use Rattle.vc_types.specs.Limits.{shape_fits}
use Rattle.vc_types.specs.Planes.{Planes, planes_in}
use Rattle.vc_types.specs.Rasters.{Raster}
use Rattle.vc_types.specs.RawFrames.{is_wide}
use Rattle.vc_types.specs.SequenceHeader.{Sequence, picture_shape}
use Rattle.link_pictures.proofs.PicturePlanes.{planes_fit}

-- ---- released pictures

abbrev pub AreOfSequence : Sequence → Option Planes → Type 0
AreOfSequence s planes = IfSome planes (ArePicturePlanes s)

abbrev pub IsOfSequence : Sequence → Option FirstField → Type 0
IsOfSequence s field = IfSome field (λ f. ArePicturePlanes s f.planes)

as_planes : (s : Sequence) (planes : Option (List Raster))
    → IfSome planes (λ p. ArePicturePlanes s (planes_in p))
    → AreOfSequence s (option_map planes_in planes)
as_planes s None is = tt
as_planes s (Some p) is = is

before_is : (s : Sequence) (field : Option FirstField) (n : ℕ) → IsOfSequence s field
    → AreOfSequence s (field_before field n)
before_is s None n of_field = tt
before_is s (Some f) n of_field = by_test (f.number + 1 == n)
  where
    by_test : (b : Bool) → AreOfSequence s (cond b (Some f.planes) None)
    by_test true = of_field
    by_test false = tt

module _ (s : Sequence) (fits : IsTrue (shape_fits (picture_shape s)))
    (narrow : is_wide (picture_shape s) ≡ false) where
  pair_fits : (earlier later : Option Planes) → AreOfSequence s earlier → AreOfSequence s later
      → IfSome (woven_fields s.top_first earlier later) HaveByteSamples
  pair_fits None later e l = tt
  pair_fits (Some a) None e l = tt
  pair_fits (Some a) (Some b) e l =
      woven_fits s.top_first a b (planes_fit s a e fits narrow) (planes_fit s b l fits narrow)

  frame_of_own : (planes : Option Planes) → AreOfSequence s planes → IfSome planes HaveByteSamples
  frame_of_own None is = tt
  frame_of_own (Some p) is = planes_fit s p is fits narrow

  -- the frame has bytes for samples
  pub frame_fits : (field : Option FirstField) (n : ℕ) (planes : Option Planes)
      → IsOfSequence s field → AreOfSequence s planes
      → IfSome (released_frame s field n planes) HaveByteSamples
  frame_fits field n planes of_field of_planes = by_tests s.fields (n % 2 == 1)
    where
      by_tests : (fields odd : Bool) → IfSome (cond fields (cond odd
          (woven_fields s.top_first (field_before field n) planes) None) planes) HaveByteSamples
      by_tests false odd = frame_of_own planes of_planes
      by_tests true false = tt
      by_tests true true =
          pair_fits (field_before field n) planes (before_is s field n of_field) of_planes

  -- likewise as lists of planes
  pub released_fits : (field : Option FirstField) (n : ℕ) (planes : Option (List Raster))
      (frame : List Raster) → IsOfSequence s field
      → IfSome planes (λ p. ArePicturePlanes s (planes_in p))
      → Some (planes_in frame) ≡ released_frame s field n (option_map planes_in planes)
      → HaveByteSamples (planes_in frame)
  released_fits field n planes frame of_field of_planes is =
      subst (λ (o : Option Planes). IfSome o HaveByteSamples) (sym is)
      (frame_fits field n (option_map planes_in planes) of_field (as_planes s planes of_planes))

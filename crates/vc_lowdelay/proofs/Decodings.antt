-- A picture that all slices came to, and its planes.
use Rattle.std.proofs.Common.{◌≡◌, ℕ, List, length, sym, ◌∙◌}
use Rattle.std.specs.Prelude.{IfOk, Result, Ok, Err}
use Rattle.vc_types.specs.Planes.{Planes, planes_in, planes_of}
use Rattle.vc_types.specs.Rasters.{Raster}
use Rattle.vc_types.specs.Slices.{Coefficients}
use Rattle.vc_types.specs.Subbands.{slice_count}
use Rattle.vc_types.specs.TransformParameters.{Parameters, parameters_of}
use Rattle.picture_build.specs.Kept.{PartPicture, HasAllSlices, all_slices, slices_of}
use Rattle.picture_build.proofs.FilledSlices.{filled_has_all, filled_planes}
use Rattle.vc_lowdelay.specs.declared.plan.LowPlan.{LowPlan}
use Rattle.vc_lowdelay.specs.declared.refusal.LowRefusal.{LowRefusal}
use Rattle.vc_lowdelay.specs.Decoded.{IsDecodable}
use Rattle.vc_lowdelay.specs.Grown.{grown_slices}
use Rattle.vc_lowdelay.specs.LowDelay.{low_planes, low_planes_of, low_slices}
use Rattle.vc_lowdelay.specs.OfPlan.{low_parameters_of}
use Rattle.vc_lowdelay.proofs.GrownPictures.{grown_planes, length-slices}
use Rattle.vc_lowdelay.proofs.LowAnswers.{is_decoded, length-low_slices, low_counts}
use Rattle.vc_lowdelay.proofs.SliceStarts.{across, down}

pub ok_same : (a b : Planes) → a ≡ b → ◌≡◌ {A = Result Planes LowRefusal} (Ok a) (Ok b)
ok_same a b e = cc

module _ (p : LowPlan) (bytes : List ℕ) where
  abbrev own : Parameters
  own = parameters_of p.plan

  abbrev pub made : List Coefficients
  made = grown_slices own (low_slices (low_parameters_of p) bytes)

  pub length-made : length made ≡ slice_count own
  length-made = length-slices own (low_slices (low_parameters_of p) bytes) ∙ length-low_slices (low_parameters_of p) bytes

  pub has_all : (picture : PartPicture) → picture ≡ all_slices own made → HasAllSlices picture
  has_all picture e = filled_has_all own made length-made picture e

  pub planes_answer : {E : Type 0} (picture : PartPicture) → picture ≡ all_slices own made → IsDecodable (low_parameters_of p) bytes → (result : Result (List Raster) E)
      → IfOk result (λ planes. planes_in planes ≡ planes_of picture.parameters (slices_of picture))
      → IfOk result (λ planes. low_planes (low_parameters_of p) bytes ≡ Ok (planes_in planes))
  planes_answer {E = E} picture e decodable result value = by result (filled_planes own made {E = E} picture e result value)
    where
      by : (result : Result (List Raster) E) → IfOk result (λ planes. planes_in planes ≡ planes_of own made) → IfOk result (λ planes. low_planes (low_parameters_of p) bytes ≡ Ok (planes_in planes))
      by (Ok planes) is =
          is_decoded (low_parameters_of p) bytes decodable
          ∙ sym (ok_same (planes_in planes) (low_planes_of own (low_slices (low_parameters_of p) bytes)) (is ∙ grown_planes own (across p) (down p) (low_slices (low_parameters_of p) bytes) (length-low_slices (low_parameters_of p) bytes) (low_counts (low_parameters_of p) bytes)))
      by (Err why) is = is

-- A picture's slices as a caller sees them: what one slice more changes, and what it leaves.
use Rattle.std.proofs.Common.{◌≡◌, ℕ, ◌<◌, Bool, true, false, List, ℤ, None, sym, ap, subst, ◌∙◌, slice_set, refl}
use Rattle.std.specs.Prelude.{slice_index_or, Result, Ok, Err, IfOk, nat_lt, if◌then◌else◌}
use Rattle.vc_types.specs.declared.refusal.Unsound.TheVariants.{IndexRange}
use Rattle.vc_types.specs.declared.video.Component.TheVariants.{Y, C1, C2}
use Rattle.vc_types.specs.Planes.{planes_in, planes_of}
use Rattle.vc_types.specs.Rasters.{Raster}
use Rattle.vc_types.specs.SliceCoefficients.{AreSliceCoefficients}
use Rattle.vc_types.specs.Slices.{CodedSlice, Coefficients, all_coefficients, in_range, decoded_slice}
use Rattle.vc_types.specs.Subbands.{slice_count}
use Rattle.vc_types.specs.TransformParameters.{Parameters}
use Rattle.picture_build.specs.Kept.{PartPicture, with_slice, slice_that_came, slices_of, HasAllSlices, kept_slices, IsKept, ChangesOnly, FillsSlice, AllAreIn}
use Rattle.picture_build.proofs.KeptSlices.{unseen, still_kept, one_more, kept_more, y_in, c1_in, c2_in}

abbrev pub seen : Parameters → List Bool → List ℤ → List ℤ → List ℤ → PartPicture
seen p came y c1 c2 = record { parameters = p; slices = kept_slices p came y c1 c2 }

module _ (p : Parameters) (some_across : 0 < p.slices_x) (some_down : 0 < p.slices_y) (came : List Bool) (y c1 c2 : List ℤ) (room : ℕ) (kept : IsKept p came y c1 c2 room)
    (now : PartPicture) (view : seen p came y c1 c2 ≡ now) (n : ℕ) (in_plan : n < slice_count now.parameters) (once : slice_that_came now n ≡ None) where
  pub numbered : n < slice_count p
  numbered = subst (λ (q : PartPicture). n < slice_count q.parameters) (sym view) in_plan

  here : slice_index_or (kept_slices p came y c1 c2) n None ≡ None
  here = subst (λ (q : PartPicture). slice_that_came q n ≡ None) (sym view) once

  module _ (y2 c12 c22 : List ℤ) (ty : ChangesOnly p Y n y y2) (t1 : ChangesOnly p C1 n c1 c12) (t2 : ChangesOnly p C2 n c2 c22) (room2 : ℕ) (same_room : room2 ≡ room) where
    pub seen_still : seen p came y2 c12 c22 ≡ now
    seen_still = ap (λ slices. record { parameters = p; slices = slices }) (unseen p some_across some_down came y c1 c2 room kept n numbered here y2 c12 c22 ty t1 t2) ∙ view

    pub kept_still : IsKept p came y2 c12 c22 room2
    kept_still = subst (IsKept p came y2 c12 c22) (sym same_room) (still_kept p some_across some_down came y c1 c2 room kept n numbered here y2 c12 c22 ty t1 t2)

  module _ (y2 c12 c22 : List ℤ) (s : Coefficients) (sound : AreSliceCoefficients p n s) (fy : FillsSlice p Y n s.y y y2) (f1 : FillsSlice p C1 n s.c1 c1 c12) (f2 : FillsSlice p C2 n s.c2 c2 c22) (room2 : ℕ) (same_room : room2 ≡ room) where
    pub seen_more : seen p (slice_set came n true) y2 c12 c22 ≡ with_slice now n s
    seen_more =
        ap (λ slices. record { parameters = p; slices = slices }) (one_more p some_across some_down came y c1 c2 room kept n numbered here y2 c12 c22 fy.only f1.only f2.only s sound fy.own f1.own f2.own)
        ∙ ap (λ (q : PartPicture). with_slice q n s) view

    pub kept_one_more : IsKept p (slice_set came n true) y2 c12 c22 room2
    kept_one_more = subst (IsKept p (slice_set came n true) y2 c12 c22) (sym same_room) (kept_more p some_across some_down came y c1 c2 room kept n numbered here y2 c12 c22 fy.only f1.only f2.only s sound fy.own f1.own f2.own)

-- ---- decoding

high_by : (p : Parameters) (n : ℕ) (coded : CodedSlice) (high : Bool) → nat_lt 127 coded.index ≡ high → high ≡ true → decoded_slice p n coded ≡ Err IndexRange
unfolding decoded_slice
high_by p n coded high e h = ap (λ (b : Bool). if b then Err IndexRange else in_range (all_coefficients p n coded)) (e ∙ h)

pub index_high : (p : Parameters) (n : ℕ) (coded : CodedSlice) → nat_lt 127 coded.index ≡ true → decoded_slice p n coded ≡ Err IndexRange
index_high p n coded h = high_by p n coded true h refl

pub index_low : (p : Parameters) (n : ℕ) (coded : CodedSlice) → nat_lt 127 coded.index ≡ false → in_range (all_coefficients p n coded) ≡ Ok (all_coefficients p n coded) → decoded_slice p n coded ≡ Ok (all_coefficients p n coded)
unfolding decoded_slice
index_low p n coded low sound = ap (λ (b : Bool). if b then Err IndexRange else in_range (all_coefficients p n coded)) low ∙ sound

-- ---- the whole picture

module _ (p : Parameters) (came : List Bool) (y c1 c2 : List ℤ) (room : ℕ) (kept : IsKept p came y c1 c2 room) (now : PartPicture) (view : seen p came y c1 c2 ≡ now) (whole : HasAllSlices now) where
  seen_in : AllAreIn p (slices_of now) y c1 c2
  seen_in = record {
    luma = y_in p came y c1 c2 room kept now (sym view) whole;
    first_colour = c1_in p came y c1 c2 room kept now (sym view) whole;
    second_colour = c2_in p came y c1 c2 room kept now (sym view) whole;
  }

  pub all_in : (slices : List Coefficients) × AllAreIn p slices y c1 c2
  all_in = (slices_of now, seen_in)

  pub planes_seen : {E : Type 0} (result : Result (List Raster) E)
      → IfOk result (λ planes. (slices : List Coefficients) → AllAreIn p slices y c1 c2 → planes_in planes ≡ planes_of p slices)
      → IfOk result (λ planes. planes_in planes ≡ planes_of now.parameters (slices_of now))
  planes_seen (Ok planes) value =
      value (slices_of now) seen_in
      ∙ ap (λ (q : PartPicture). planes_of q.parameters (slices_of now)) view
  planes_seen (Err e) value = value

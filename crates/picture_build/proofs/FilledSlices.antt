-- A picture that slices came to in raster order: what is known after each, and the whole picture.
use Rattle.std.proofs.Common.{◌≡◌, ℕ, ◌+◌, ◌<◌, ◌≤◌, List, [], ◌∷◌, length, map, Some, None, arith, refl, sym, ap, subst, ◌∙◌, inl, inr, slice_set, length-set}
use Rattle.std.specs.Prelude.{slice_index_or, Option, Result, Ok, Err, IfOk}
use Rattle.vc_types.specs.Planes.{planes_in, planes_of}
use Rattle.vc_types.specs.Rasters.{Raster}
use Rattle.std.specs.Option.{is_some, unwrap_or}
use Rattle.std.proofs.lemmas.Bool.{cases_lt, cases_eq}
use Rattle.std.proofs.lemmas.List.{ext_get_or, get_or-map, length-map, get_or_past, get_or-replicate, length-replicate, get_or-set_same, get_or-set_other}
use Rattle.vc_types.specs.Slices.{Coefficients}
use Rattle.vc_types.specs.Subbands.{slice_count}
use Rattle.vc_types.specs.TransformParameters.{Parameters}
use Rattle.picture_build.specs.Kept.{PartPicture, HasAllSlices, no_slices, all_slices, with_slice, slice_that_came, slices_of, no_coefficients}

-- the first n of these slices came, and no other
pub record FirstCame (p : Parameters) (slices : List Coefficients) (n : ℕ) (picture : PartPicture) : Type 0 where
  pub parameters : picture.parameters ≡ p
  pub count : length picture.slices ≡ slice_count p
  pub came : (k : ℕ) → k < n → slice_that_came picture k ≡ Some (slice_index_or slices k no_coefficients)
  pub others : (k : ℕ) → n ≤ k → slice_that_came picture k ≡ None

abbrev some : Coefficients → Option Coefficients
some s = Some s

replicated : (p : Parameters) → length (no_slices p).slices ≡ slice_count p
replicated p = length-replicate {A = Option Coefficients} (slice_count p) None

module _ (p : Parameters) (slices : List Coefficients) where
  pub none_came : FirstCame p slices 0 (no_slices p)
  none_came = record {
    parameters = refl;
    count = replicated p;
    came = λ k h. absurd (omega (arith, h));
    others = λ k h. none k;
  }
    where
      none : (k : ℕ) → slice_that_came (no_slices p) k ≡ None
      none k = elim (cases_lt k (slice_count p)) [
        | inl lt ↦ get_or-replicate (slice_count p) k None None lt
        | inr ge ↦ get_or_past (no_slices p).slices k None (omega (arith, replicated p))
      ]

  pub one_more_came : (n : ℕ) (picture : PartPicture) (s : Coefficients) → n < slice_count p → slice_index_or slices n no_coefficients ≡ s
      → FirstCame p slices n picture → FirstCame p slices (n + 1) (with_slice picture n s)
  one_more_came n picture s h own first = record {
    parameters = first.parameters;
    count = length-set picture.slices n (Some s) ∙ first.count;
    came = at;
    others = λ k ge. get_or-set_other picture.slices n k (Some s) None (omega (arith, ge)) ∙ first.others k (omega (arith, ge));
  }
    where
      at : (k : ℕ) → k < n + 1 → slice_index_or (slice_set picture.slices n (Some s)) k None ≡ Some (slice_index_or slices k no_coefficients)
      at k lt = elim (cases_eq k n) [
        | inl e ↦ ap (λ m. slice_index_or (slice_set picture.slices n (Some s)) m None) e
            ∙ get_or-set_same picture.slices n (Some s) None (omega (arith, first.count))
            ∙ sym (ap (λ m. Some (slice_index_or slices m no_coefficients)) e ∙ ap some own)
        | inr ne ↦ get_or-set_other picture.slices n k (Some s) None ne ∙ first.came k (omega (arith, ne))
      ]

  pub all_came : (picture : PartPicture) → length slices ≡ slice_count p → FirstCame p slices (slice_count p) picture → picture ≡ all_slices p slices
  all_came picture long first = by picture.parameters picture.slices first.parameters same
    where
      same : picture.slices ≡ map Some slices
      same = ext_get_or None picture.slices (map Some slices) (first.count ∙ sym long ∙ sym (length-map slices some))
          (λ k h. first.came k (omega (arith, first.count)) ∙ sym (get_or-map some slices k no_coefficients None (omega (arith, first.count, long))))

      by : (q : Parameters) (came : List (Option Coefficients)) → q ≡ p → came ≡ map Some slices → ◌≡◌ {A = PartPicture} (record { parameters = q; slices = came }) (all_slices p slices)
      by q came e f = cc

  pub has_all : length slices ≡ slice_count p → HasAllSlices (all_slices p slices)
  has_all long = λ n h. ap is_some (get_or-map some slices n no_coefficients None (omega (arith, long)))

pub slices_in_all : (slices : List Coefficients) → map (λ s. unwrap_or s no_coefficients) (map Some slices) ≡ slices
slices_in_all [] = refl
slices_in_all (s ∷ slices) = ap (λ rest. s ∷ rest) (slices_in_all slices)

-- ---- the picture as it is built

module _ (p : Parameters) (slices : List Coefficients) where
  pub filled_has_all : length slices ≡ slice_count p → (picture : PartPicture) → picture ≡ all_slices p slices → HasAllSlices picture
  filled_has_all long picture e = subst HasAllSlices (sym e) (has_all p slices long)

  pub filled_planes : {E : Type 0} (picture : PartPicture) → picture ≡ all_slices p slices → (result : Result (List Raster) E)
      → IfOk result (λ planes. planes_in planes ≡ planes_of picture.parameters (slices_of picture))
      → IfOk result (λ planes. planes_in planes ≡ planes_of p slices)
  filled_planes picture e (Ok planes) value =
      value ∙ ap (λ (q : PartPicture). planes_of q.parameters (slices_of q)) e ∙ ap (planes_of p) (slices_in_all slices)
  filled_planes picture e (Err why) value = value

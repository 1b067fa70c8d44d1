-- The slices of a picture, as they come into cells one after another.
use Rattle.std.proofs.Common.{◌≡◌, ℕ, ◌+◌, ◌<◌, List, length, ℤ, refl, sym, ap, subst, ◌∙◌, arith, inl, inr}
use Rattle.std.specs.Prelude.{slice_index_or}
use Rattle.std.proofs.lemmas.Bool.{cases_eq}
use Rattle.std.proofs.lemmas.List.FromFn.{get_or-map-range_with_len}
use Rattle.vc_types.specs.declared.video.Component.{Component}
use Rattle.vc_types.specs.declared.video.Component.TheVariants.{Y, C1, C2}
use Rattle.vc_types.specs.Lifting.{line_of}
use Rattle.vc_types.specs.Slices.{Coefficients, coefficients_of}
use Rattle.vc_types.specs.Subbands.{slice_count, slice_coefficient_count}
use Rattle.vc_types.specs.TransformParameters.{Parameters, parameters_of}
use Rattle.picture_build.specs.Kept.{AreIn, FillsSlice, kept_at}
use Rattle.picture_build.specs.PictureCoefficients.{ArePictureCoefficients}
use Rattle.picture_build.proofs.PlacedNumbers.{kept_apart}
use Rattle.vc_lowdelay.specs.declared.plan.LowPlan.{LowPlan}
use Rattle.vc_lowdelay.specs.Grown.{IsSound}
use Rattle.vc_lowdelay.specs.LowDelay.{all_low_coefficients, low_coefficients, low_slices, slice_at}
use Rattle.vc_lowdelay.specs.Narrow.{HasPaddedSize}
use Rattle.vc_lowdelay.specs.OfPlan.{low_parameters_of}
use Rattle.vc_lowdelay.proofs.LowAnswers.{length-low_slices}
use Rattle.vc_lowdelay.proofs.LowCoefficients.{length-low}
use Rattle.vc_lowdelay.proofs.SliceStarts.{across, down}

module _ (p : LowPlan) (bytes : List ℕ) where
  abbrev own : Parameters
  own = parameters_of p.plan

  -- the coefficients of slice k
  abbrev pub coefficients : ℕ → Component → List ℤ
  coefficients k c = low_coefficients own k (slice_at (low_parameters_of p) bytes k) c

  -- the first n slices stand in the cells of a component
  pub record FirstIn (c : Component) (n : ℕ) (cells : List ℤ) : Type 0 where
    pub size : HasPaddedSize own c cells
    pub stand : (k i : ℕ) → k < n → i < slice_coefficient_count own c k → line_of cells (kept_at own c k i) ≡ line_of (coefficients k c) i

  -- and none of them has a large coefficient
  abbrev pub FirstSound : ℕ → Type 0
  FirstSound n = (k : ℕ) → k < n → IsSound own k (slice_at (low_parameters_of p) bytes k)

  pub none_in : (c : Component) (cells : List ℤ) → HasPaddedSize own c cells → FirstIn c 0 cells
  none_in c cells size = record { size = size; stand = λ k i h below. absurd (omega (arith, h)) }

  pub one_more_in : (c : Component) (n : ℕ) (old new : List ℤ) → n < slice_count own → FirstIn c n old → FillsSlice own c n (coefficients n c) old new → FirstIn c (n + 1) new
  one_more_in c n old new numbered first fills = record {
    size = fills.only.length ∙ first.size;
    stand = λ k i h below. elim (cases_eq k n) [
      | inl e ↦ subst (λ (m : ℕ). line_of new (kept_at own c m i) ≡ line_of (coefficients m c) i) (sym e)
          (fills.own i (subst (λ (m : ℕ). i < slice_coefficient_count own c m) e below))
      | inr ne ↦ fills.only.others (kept_at own c k i)
          (λ j within same. ne ((kept_apart own c (across p) (down p) k i n j (omega (arith, h, numbered)) below numbered within same).0))
          ∙ first.stand k i (omega (arith, h, ne)) below
    ];
  }

  pub one_more_sound : (n : ℕ) → FirstSound n → IsSound own n (slice_at (low_parameters_of p) bytes n) → FirstSound (n + 1)
  one_more_sound n first sound k h = elim (cases_eq k n) [
    | inl e ↦ subst (λ (m : ℕ). IsSound own m (slice_at (low_parameters_of p) bytes m)) (sym e) sound
    | inr ne ↦ first k (omega (arith, h, ne))
  ]

  -- ---- all of them

  slice_is : (n : ℕ) (none : Coefficients) → n < slice_count own → slice_index_or (low_slices (low_parameters_of p) bytes) n none ≡ all_low_coefficients own n (slice_at (low_parameters_of p) bytes n)
  unfolding low_slices
  slice_is n none h = get_or-map-range_with_len (λ i. all_low_coefficients own i (slice_at (low_parameters_of p) bytes i)) 0 (slice_count own) n n none h (omega arith)

  component_is : (n : ℕ) (none : Coefficients) (c : Component) → n < slice_count own → coefficients_of (slice_index_or (low_slices (low_parameters_of p) bytes) n none) c ≡ coefficients n c
  component_is n none c h = ap (λ (s : Coefficients). coefficients_of s c) (slice_is n none h) ∙ of_all c
    where
      of_all : (c : Component) → coefficients_of (all_low_coefficients own n (slice_at (low_parameters_of p) bytes n)) c ≡ coefficients n c
      of_all Y = refl
      of_all C1 = refl
      of_all C2 = refl

  module _ (n : ℕ) (done : n ≡ slice_count own) (sound : FirstSound n) where
    are_whole : ArePictureCoefficients own (low_slices (low_parameters_of p) bytes)
    are_whole k none h =
        let numbered : k < slice_count own = omega (arith, h, length-low_slices (low_parameters_of p) bytes) in
        record {
          count = λ c. ap length (component_is k none c numbered) ∙ length-low own k (slice_at (low_parameters_of p) bytes k) c;
          small = λ c. rw (component_is k none c numbered) (sound k (omega (arith, numbered, done)) c);
        }

    pub all_in : (c : Component) (cells : List ℤ) → FirstIn c n cells → AreIn own c (low_slices (low_parameters_of p) bytes) cells
    all_in c cells first = record {
      count = length-low_slices (low_parameters_of p) bytes;
      whole = are_whole;
      length = first.size;
      stand = λ k i none h below. first.stand k i (omega (arith, h, done)) below ∙ ap (λ (zs : List ℤ). line_of zs i) (sym (component_is k none c h));
    }

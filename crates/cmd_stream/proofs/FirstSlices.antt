-- The first slices of a picture in a builder.
use Rattle.std.proofs.Common.{◌≡◌, ℕ, ◌<◌, List, [], ◌∷◌, ◌++◌, length, None, arith, sym, ap, subst, ◌∙◌}
use Rattle.std.specs.Prelude.{Option}
use Rattle.std.specs.Option.{is_some, unwrap_or}
use Rattle.std.proofs.lemmas.Bool.{cases_eq, cases_lt}
use Rattle.std.proofs.lemmas.List.{ext_get_or, get_or-map, length-map, get_or_past, get_or-replicate, length-replicate, get_or-set_same, get_or-set_other, get_or_push, get_or_append_left}
use Rattle.std.proofs.lemmas.Grind.{common_steps}
use Rattle.vc_types.specs.Slices.{Coefficients}
use Rattle.vc_types.specs.Subbands.{slice_count}
use Rattle.vc_types.specs.TransformParameters.{Parameters}
use Rattle.picture_build.specs.Kept.{PartPicture, no_slices, no_coefficients, slice_that_came, with_slice, slices_of, HasAllSlices}
use Rattle.cmd_stream.specs.Slices.{HasFirst}

module _ (p : Parameters) where
  pub first_none : (picture : PartPicture) → picture ≡ no_slices p → HasFirst p [] picture
  first_none picture is = grind (arith, common_steps, length-replicate, nothing)
    where
      nothing : (n : ℕ) → slice_that_came (no_slices p) n ≡ None
      nothing n = grind (arith, common_steps, cases_lt, get_or-replicate, length-replicate, get_or_past)

  module _ (first : List Coefficients) (before : PartPicture) (has : HasFirst p first before) where
    pub next_awaited : (n : ℕ) → length first ≡ n → slice_that_came before n ≡ None
    next_awaited n e = has.awaited n (omega (arith, e))

    -- one more
    pub first_more : (n : ℕ) (s : Coefficients) (after : PartPicture) → length first ≡ n → n < slice_count p → after ≡ with_slice before n s → HasFirst p (first ++ s ∷ []) after
    first_more n s after e h is =
        grind (arith, common_steps, cases_eq, get_or-set_same, get_or_push, get_or-set_other, get_or_append_left)

    -- all of them
    module _ (all : length first ≡ slice_count p) where
      pub first_all : slices_of before ≡ first
      first_all =
          let count = length-map before.slices (λ (s : Option Coefficients). unwrap_or s no_coefficients) ∙ has.entries in
          ext_get_or no_coefficients (slices_of before) first (count ∙ sym all)
          (λ n h. (
          let below : n < length first = omega (arith, count, all) in
          get_or-map (λ (s : Option Coefficients). unwrap_or s no_coefficients) before.slices n None no_coefficients (omega (arith, count, has.entries))
          ∙ ap (λ (s : Option Coefficients). unwrap_or s no_coefficients) (has.came n no_coefficients below)))

      pub first_whole : HasAllSlices before
      first_whole n h =
          let below : n < slice_count p = subst (λ (q : Parameters). n < slice_count q) has.parameters h in
          ap is_some (has.came n no_coefficients (omega (arith, all)))

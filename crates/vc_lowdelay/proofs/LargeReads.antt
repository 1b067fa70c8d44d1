-- A large coefficient of LL that is read of a block is one of the slice's.
use Rattle.std.proofs.Common.{◌≡◌, ℕ, ◌+◌, ◌-◌, ◌*◌, ◌/◌, ◌%◌, Bool, true, List, refl, sym, ap, subst, ◌∙◌, arith, inl, inr}
use Rattle.std.specs.Prelude.{slice_index_or}
use Rattle.std.proofs.lemmas.Bool.{cases_eq}
use Rattle.vc_types.specs.declared.video.Component.TheVariants.{Y, C1, C2}
use Rattle.vc_types.specs.Slices.{is_large}
use Rattle.vc_types.specs.Subbands.{area, slice_rectangle}
use Rattle.vc_types.specs.TransformParameters.{Parameters}
use Rattle.vc_lowdelay.specs.Bands.{lowest_rectangle}
use Rattle.vc_lowdelay.specs.LowDelay.{LowSlice}
use Rattle.vc_lowdelay.specs.Placed.{HasLargeIn, ReadsLarge, read_at}
use Rattle.vc_lowdelay.proofs.LowCoefficients.{large_among}

-- both colours have the same part of LL
pub colours_alike : (p : Parameters) (n : ℕ) → lowest_rectangle p C1 n ≡ lowest_rectangle p C2 n
unfolding slice_rectangle
colours_alike p n = refl

module _ (p : Parameters) (n : ℕ) (s : LowSlice) (q : ℕ) (is : q ≡ s.index - slice_index_or p.matrix 0 0) where
  own : (bits : List Bool) (k : ℕ) → is_large (read_at bits q k) ≡ true → is_large (read_at bits (s.index - slice_index_or p.matrix 0 0) k) ≡ true
  own bits k e = ap (λ (i : ℕ). is_large (read_at bits i k)) (sym is) ∙ e

  pub large_luma : ReadsLarge (area (lowest_rectangle p Y n)) s.luma q → HasLargeIn p n s
  large_luma reads = (Y, large_among p n s Y reads.place reads.below (own s.luma reads.place reads.large))

  pub large_colours : ReadsLarge (2 * area (lowest_rectangle p C1 n)) s.colour q → HasLargeIn p n s
  large_colours reads =
      let k = reads.place in
      let half = k / 2 in
      let large = own s.colour k reads.large in
      let below = reads.below in
      let same = ap area (colours_alike p n) in
      elim (cases_eq (k % 2) 0) [
        | inl even ↦ (
            let number : k ≡ 2 * half = omega (arith, even) in
            (C1, large_among p n s C1 half (omega (arith, below, number)) (subst (λ (i : ℕ). is_large (read_at s.colour (s.index - slice_index_or p.matrix 0 0) i) ≡ true) number large)))
        | inr odd ↦ (
            let number : k ≡ 2 * half + 1 = omega (arith, odd) in
            (C2, large_among p n s C2 half (omega (arith, below, number, same)) (subst (λ (i : ℕ). is_large (read_at s.colour (s.index - slice_index_or p.matrix 0 0) i) ≡ true) number large)))
      ]

-- The highest level both ways: its sides, and what it makes of the subbands that are left below it.
use Rattle.std.proofs.Common.{◌≡◌, ℕ, suc, ◌+◌, ◌-◌, ◌*◌, ◌/◌, ◌^◌, ◌≤◌, inl, inr, arith, refl, ap, subst, ◌∙◌}
use Rattle.std.proofs.lemmas.Bool.{cases_lt}
use Rattle.std.proofs.Math.Nat.{div-mul-le_self, mul-le-mul_right, pow-suc}
use Rattle.std.proofs.Math.Pow.{pow_pos}
use Rattle.vc_types.specs.declared.video.Component.{Component}
use Rattle.vc_types.specs.Limits.{padded}
use Rattle.vc_types.specs.Subbands.{levels, plane_width, plane_height, padded_width, padded_height}
use Rattle.vc_types.specs.TransformParameters.{Parameters}
use Rattle.vc_types.specs.Transforms.{Cells, levels_across, inverse_level, inverse_transform, lowest_width}
use Rattle.vc_types.specs.Transforms.{lowest_height}
use Rattle.vc_types.proofs.PaddedSides.{padded-above}
use Rattle.vc_wave.specs.Layout.{after_levels}
use Rattle.vc_wave.specs.Sides.{highest_width, highest_height}
use Rattle.vc_wave.proofs.Grids.{padded_whole}
use Rattle.vc_wave.proofs.Levels.{next_level}
use Rattle.vc_wave.proofs.TransformLocality.{side_parts}

double : (n m u : ℕ) → suc n ≡ m → 2 * (u * 2 ^ n) ≡ u * 2 ^ m
double n m u e = grind (arith, pow-suc)

module _ (p : Parameters) (c : Component) (some : 1 ≤ p.depth) where
  pub whole_width : 2 * highest_width p c ≡ padded_width p c
  whole_width =
      ap (λ n. 2 * n) (side_parts (lowest_width p c) (p.depth - 1) p.depth_ho)
      ∙ double (p.depth - 1 + p.depth_ho) (levels p) (lowest_width p c) (omega arith)
      ∙ padded_whole (plane_width p.shape c) (levels p)

  pub whole_height : 2 * highest_height p c ≡ padded_height p c
  whole_height = double (p.depth - 1) p.depth (lowest_height p c) (omega arith)
      ∙ padded_whole (plane_height p.shape c) p.depth

  pub highest_made : (now nested : Cells) → now ≡ after_levels p c (p.depth - 1) nested
      → inverse_level p.wavelet p.wavelet_ho (highest_width p c) (highest_height p c) now
      ≡ inverse_transform p c nested
  unfolding inverse_transform
  highest_made now nested below =
      let all : p.depth - 1 + 1 ≡ p.depth = omega arith in
      next_level p.wavelet p.wavelet_ho (p.depth - 1) (lowest_width p c * 2 ^ p.depth_ho) (lowest_height p c)
      (levels_across p.wavelet_ho p.depth_ho (lowest_width p c) (lowest_height p c) nested) now
      (inverse_level p.wavelet p.wavelet_ho (highest_width p c) (highest_height p c) now) below refl
      ∙ ap (λ n. after_levels p c n nested) all

  -- a plane lies within it
  pub plane_across : (columns : ℕ) → columns ≡ plane_width p.shape c → 1 ≤ columns
      → columns ≤ 2 * highest_width p c
  plane_across columns is first =
      let within : columns ≤ padded_width p c =
      rw is (padded-above (plane_width p.shape c) (levels p) (omega (arith, is, first))) in
      omega (arith, within, whole_width)

  pub plane_down : (rows : ℕ) → rows ≡ plane_height p.shape c → 1 ≤ rows → rows ≤ 2 * highest_height p c
  plane_down rows is first =
      let within : rows ≤ padded_height p c =
      rw is (padded-above (plane_height p.shape c) p.depth (omega (arith, is, first))) in
      omega (arith, within, whole_height)

-- a side that is padded to some places has some
pub side_some : (side depth : ℕ) → 1 ≤ padded side depth → 1 ≤ side
side_some side depth h = elim (cases_lt side 1) [
  | inr some ↦ some
  | inl none ↦ (
      let same : side + 2 ^ depth - 1 ≡ 2 ^ depth - 1 = omega arith in
      let part = (2 ^ depth - 1) / 2 ^ depth in
      let low : part * 2 ^ depth ≤ 2 ^ depth - 1 = div-mul-le_self (2 ^ depth - 1) (2 ^ depth) in
      let high : 1 ≤ part * 2 ^ depth = subst (λ n. 1 ≤ n / 2 ^ depth * 2 ^ depth) same h in
      let unit = pow_pos depth in
      elim (cases_lt part 1) [
        | inl zero ↦ (let nothing : part * 2 ^ depth ≤ 0 * 2 ^ depth = mul-le-mul_right (2 ^ depth) (omega (arith, zero)) in
            absurd (omega (arith, nothing, high)))
        | inr one ↦ (let whole : 1 * 2 ^ depth ≤ part * 2 ^ depth = mul-le-mul_right (2 ^ depth) one in
            absurd (omega (arith, whole, low, unit)))
      ])
]

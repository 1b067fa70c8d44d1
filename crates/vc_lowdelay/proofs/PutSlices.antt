-- What a slice has of LL, read of its blocks, is its coefficients.
use Rattle.std.proofs.Common.{◌≡◌, ℕ, ◌+◌, ◌-◌, ◌*◌, ◌<◌, ap, ◌∙◌}
use Rattle.std.specs.Prelude.{slice_index_or}
use Rattle.vc_types.specs.declared.video.Component.{Component}
use Rattle.vc_types.specs.declared.video.Component.TheVariants.{Y, C1, C2}
use Rattle.vc_types.specs.Rasters.{Lattice}
use Rattle.vc_types.specs.Subbands.{area}
use Rattle.vc_types.specs.TransformParameters.{Parameters}
use Rattle.vc_lowdelay.specs.Bands.{lowest_rectangle}
use Rattle.vc_lowdelay.specs.LowDelay.{LowSlice}
use Rattle.vc_lowdelay.specs.Placed.{Places, coefficient_at, place_of_number, read_at}
use Rattle.vc_lowdelay.proofs.LowCoefficients.{block_of, lowest_at}
use Rattle.vc_lowdelay.proofs.RectReads.{places_same}

module _ (p : Parameters) (n : ℕ) (s : LowSlice) (q : ℕ) (is : q ≡ s.index - slice_index_or p.matrix 0 0) (old new : Lattice) where
  same : (c : Component) (i : ℕ) → i < area (lowest_rectangle p c n) → read_at (block_of s c) q (place_of_number c i) ≡ coefficient_at p n s c i
  same c i h = ap (λ (k : ℕ). read_at (block_of s c) k (place_of_number c i)) is ∙ lowest_at p n s c i h

  pub luma_placed : Places p Y n (read_at s.luma q) old new → Places p Y n (coefficient_at p n s Y) old new
  luma_placed placed = places_same p Y n (read_at s.luma q) (coefficient_at p n s Y) old new (same Y) placed

  pub c1_placed : Places p C1 n (λ i. read_at s.colour q (2 * i)) old new → Places p C1 n (coefficient_at p n s C1) old new
  c1_placed placed = places_same p C1 n (λ i. read_at s.colour q (2 * i)) (coefficient_at p n s C1) old new (same C1) placed

  pub c2_placed : Places p C2 n (λ i. read_at s.colour q (2 * i + 1)) old new → Places p C2 n (coefficient_at p n s C2) old new
  c2_placed placed = places_same p C2 n (λ i. read_at s.colour q (2 * i + 1)) (coefficient_at p n s C2) old new (same C2) placed

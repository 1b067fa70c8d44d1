-- LL in a component's cells, from the band in which it grew.
use Rattle.std.proofs.Common.{◌≡◌, ◌≢◌, ℕ, ◌+◌, ◌*◌, ◌^◌, ◌<◌, ◌≤◌, List, length, ℤ, unsigned_abs, sym, ap, subst, ◌∙◌, arith}
use Rattle.std.proofs.lemmas.Nat.{same_from_place, shr_le}
use Rattle.vc_types.specs.declared.video.Component.{Component}
use Rattle.vc_types.specs.Lifting.{line_of}
use Rattle.vc_types.specs.Rasters.{Lattice}
use Rattle.vc_types.specs.Subbands.{levels, padded_width, padded_height}
use Rattle.vc_types.specs.TransformParameters.{Parameters}
use Rattle.vc_types.specs.Transforms.{lowest_width, lowest_height}
use Rattle.vc_lowdelay.specs.Bands.{AreSmallValues, HasValues, IsLowest, value_in}
use Rattle.vc_lowdelay.specs.LowDelay.{predicted}
use Rattle.vc_lowdelay.specs.Narrow.{GrowsLowest, cells_of, kept_cells}
use Rattle.vc_lowdelay.proofs.PredictedValues.{predicted_agrees}

module _ (p : Parameters) (c : Component) where
  -- LL isn't larger than the padded grid
  pub lowest_in_grid : (lowest_width p c ≤ padded_width p c) × (lowest_height p c ≤ padded_height p c)
  lowest_in_grid = (shr_le (padded_width p c) (levels p), shr_le (padded_height p c) p.depth)

  module _ (old new : List ℤ) (band grown : Lattice) (stride : ℕ) (own : stride ≡ padded_width p c)
      (size : IsLowest p c band) (holds : HasValues (kept_cells p c old) band) (wide : grown.width ≡ band.width) (high : grown.height ≡ band.height)
      (values : HasValues (predicted (value_in band)) grown) (small : AreSmallValues grown)
      (on : (x y : ℕ) → x < grown.width → y < grown.height → cells_of stride new x y ≡ value_in grown x y)
      (off : (k : ℕ) → ((x y : ℕ) → x < grown.width → y < grown.height → k ≢ y * stride + x) → line_of new k ≡ line_of old k)
      (long : length new ≡ length old) where
    value_is : (x y : ℕ) → x < lowest_width p c → y < lowest_height p c → value_in grown x y ≡ predicted (kept_cells p c old) x y
    value_is x y hx hy =
        values x y (omega (arith, hx, wide, size.width)) (omega (arith, hy, high, size.height))
        ∙ predicted_agrees (value_in band) (kept_cells p c old) band.width band.height holds x y (omega (arith, hx, size.width)) (omega (arith, hy, size.height))

    stride_is : (cells : List ℤ) (x y : ℕ) → kept_cells p c cells x y ≡ cells_of stride cells x y
    stride_is cells x y = ap (λ (n : ℕ). cells_of n cells x y) (sym own)

    pub grown_in_cells : GrowsLowest p c old new
    grown_in_cells = record {
      length = long;
      grown = λ x y hx hy.
          stride_is new x y
          ∙ on x y (omega (arith, hx, wide, size.width)) (omega (arith, hy, high, size.height))
          ∙ value_is x y hx hy;
      small = λ x y hx hy. subst (λ (z : ℤ). unsigned_abs z < 2 ^ 60) (value_is x y hx hy)
          (small x y (omega (arith, hx, wide, size.width)) (omega (arith, hy, high, size.height)));
      others = λ x y hx out.
          stride_is new x y
          ∙ off (y * stride + x) (λ a b ha hb same. (
          let place = same_from_place y x b a stride (omega (arith, hx, own)) (omega (arith, ha, wide, size.width, lowest_in_grid.0, own)) same in
          out (omega (arith, place.1, ha, wide, size.width)) (omega (arith, place.0, hb, high, size.height))))
          ∙ sym (stride_is old x y);
    }

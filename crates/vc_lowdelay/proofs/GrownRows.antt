-- A band whose values grow in raster order.
use Rattle.std.proofs.Common.{◌≡◌, ◌≢◌, ℕ, zero, suc, ◌+◌, ◌*◌, ◌^◌, ◌<◌, ◌≤◌, ℤ, pos, ◌+ℤ◌, unsigned_abs, refl, sym, ap, subst, ◌∙◌, arith, suc-mul, add-mul, inl, inr}
use Rattle.std.proofs.lemmas.Bool.{cases_eq}
use Rattle.std.proofs.lemmas.Int.{ints}
use Rattle.std.proofs.lemmas.Nat.{mul-add-lt, same_from_place}
use Rattle.vc_types.specs.Lifting.{line_of}
use Rattle.vc_types.specs.Rasters.{Lattice}
use Rattle.vc_types.specs.Transforms.{Cells}
use Rattle.vc_lowdelay.specs.Bands.{AreSmallValues, HasValues, index_of_place, prediction_in, value_in}
use Rattle.vc_lowdelay.specs.LowDelay.{mean_of, first_row, next_row, grown_row, predicted}

-- ---- each value grows by its prediction

plus_nothing : (z : ℤ) → z +ℤ pos 0 ≡ z
plus_nothing z = omega (arith, ints)

pub predicted_step : (cells : Cells) (x y : ℕ) → predicted cells x y ≡ cells x y +ℤ prediction_in (predicted cells) x y
unfolding first_row next_row grown_row prediction_in
predicted_step cells zero zero = sym (plus_nothing (cells zero zero))
predicted_step cells (suc x) zero = refl
predicted_step cells zero (suc y) = refl
predicted_step cells (suc x) (suc y) = refl

-- ---- the first values in raster order have grown

module _ (cells : Cells) (w h : ℕ) where
  pub record GrownTo (done : ℕ) (band : Lattice) : Type 0 where
    pub width : band.width ≡ w
    pub height : band.height ≡ h
    pub grown : (a b : ℕ) → a < w → b < h → b * w + a < done → line_of band.cells (b * w + a) ≡ predicted cells a b
    pub left : (a b : ℕ) → a < w → b < h → done ≤ b * w + a → line_of band.cells (b * w + a) ≡ cells a b
    pub small : (a b : ℕ) → a < w → b < h → unsigned_abs (line_of band.cells (b * w + a)) < 2 ^ 60

  module _ (band : Lattice) (done : ℕ) (to : GrownTo done band) where
    pub at : (a b : ℕ) → value_in band a b ≡ line_of band.cells (b * w + a)
    at a b = ap (λ (n : ℕ). line_of band.cells (b * n + a)) to.width

    pub are_small : AreSmallValues band
    are_small a b ha hb = subst (λ (z : ℤ). unsigned_abs z < 2 ^ 60) (sym (at a b)) (to.small a b (omega (arith, to.width)) (omega (arith, to.height)))

    -- what is predicted of the next value
    pub next_prediction : (x y : ℕ) → x < w → y < h → done ≡ y * w + x → prediction_in (value_in band) x y ≡ prediction_in (predicted cells) x y
    unfolding prediction_in
    next_prediction zero zero hx hy e = refl
    next_prediction (suc x) zero hx hy e = at x zero ∙ to.grown x zero (omega arith) hy (omega arith)
    next_prediction zero (suc y) hx hy e = at zero y ∙ to.grown zero y hx (omega arith) (omega (arith, suc-mul y w))
    next_prediction (suc x) (suc y) hx hy e =
        let row = suc-mul y w in
        let left = at x (suc y) ∙ to.grown x (suc y) (omega arith) hy (omega arith) in
        let corner = at x y ∙ to.grown x y (omega arith) (omega arith) (omega (arith, row)) in
        let above = at (suc x) y ∙ to.grown (suc x) y hx (omega arith) (omega (arith, row)) in
        ap (λ (z : ℤ). mean_of z (value_in band x y) (value_in band (suc x) y)) left
        ∙ ap (λ (z : ℤ). mean_of (predicted cells x (suc y)) z (value_in band (suc x) y)) corner
        ∙ ap (mean_of (predicted cells x (suc y)) (predicted cells x y)) above

    -- the value as it has grown
    pub next_value_is : (x y : ℕ) (value : ℤ) → x < w → y < h → done ≡ y * w + x
        → value ≡ value_in band x y +ℤ prediction_in (value_in band) x y → value ≡ predicted cells x y
    next_value_is x y value hx hy e is =
        is
        ∙ ap (λ (z : ℤ). z +ℤ prediction_in (value_in band) x y) (at x y ∙ to.left x y hx hy (omega arith))
        ∙ ap (λ (z : ℤ). cells x y +ℤ z) (next_prediction x y hx hy e)
        ∙ sym (predicted_step cells x y)

    pub one_more : (x y : ℕ) (new : Lattice) (value : ℤ) → x < w → y < h → done ≡ y * w + x
        → value ≡ value_in band x y +ℤ prediction_in (value_in band) x y → unsigned_abs value < 2 ^ 60
        → new.width ≡ band.width → new.height ≡ band.height
        → line_of new.cells (index_of_place band (x, y)) ≡ value
        → ((k : ℕ) → k ≢ index_of_place band (x, y) → line_of new.cells k ≡ line_of band.cells k)
        → GrownTo (done + 1) new
    one_more x y new value hx hy e is own wide high on off = record {
      width = wide ∙ to.width;
      height = high ∙ to.height;
      grown = λ a b ha hb before. elim (cases_eq (b * w + a) (y * w + x)) [
        | inl same ↦ (
            let place = same_from_place b a y x w ha hx same in
            ap (line_of new.cells) same ∙ here ∙ next_value_is x y value hx hy e is
            ∙ ap (λ (n : ℕ). predicted cells n y) (sym place.1) ∙ ap (predicted cells a) (sym place.0))
        | inr other ↦ apart (b * w + a) other ∙ to.grown a b ha hb (omega arith)
      ];
      left = λ a b ha hb from. apart (b * w + a) (omega arith) ∙ to.left a b ha hb (omega arith);
      small = λ a b ha hb. elim (cases_eq (b * w + a) (y * w + x)) [
        | inl same ↦ subst (λ (z : ℤ). unsigned_abs z < 2 ^ 60) (sym (ap (line_of new.cells) same ∙ here)) own
        | inr other ↦ subst (λ (z : ℤ). unsigned_abs z < 2 ^ 60) (sym (apart (b * w + a) other)) (to.small a b ha hb)
      ];
    }
      where
        number : index_of_place band (x, y) ≡ y * w + x
        number = ap (λ (n : ℕ). y * n + x) to.width

        here : line_of new.cells (y * w + x) ≡ value
        here = ap (line_of new.cells) (sym number) ∙ on

        apart : (k : ℕ) → k ≢ y * w + x → line_of new.cells k ≡ line_of band.cells k
        apart k other = off k (λ same. other (same ∙ number))

  pub none_grown : (band : Lattice) → band.width ≡ w → band.height ≡ h → HasValues cells band → AreSmallValues band → GrownTo 0 band
  none_grown band wide high holds small = record {
    width = wide;
    height = high;
    grown = λ a b ha hb before. absurd (omega (arith, before));
    left = λ a b ha hb from. sym (seen a b) ∙ holds a b (omega (arith, wide, ha)) (omega (arith, high, hb));
    small = λ a b ha hb. subst (λ (z : ℤ). unsigned_abs z < 2 ^ 60) (seen a b) (small a b (omega (arith, wide, ha)) (omega (arith, high, hb)));
  }
    where
      seen : (a b : ℕ) → value_in band a b ≡ line_of band.cells (b * w + a)
      seen a b = ap (λ (n : ℕ). line_of band.cells (b * n + a)) wide

  pub all_grown : (band : Lattice) (done : ℕ) → h * w ≤ done → GrownTo done band → HasValues (predicted cells) band
  all_grown band done whole to a b ha hb =
      let across : a < w = omega (arith, to.width, ha) in
      let down : b < h = omega (arith, to.height, hb) in
      at band done to a b ∙ to.grown a b across down (omega (arith, mul-add-lt b w a h down across, whole))

  -- a row more
  pub row_done : (y : ℕ) (band : Lattice) (done : ℕ) → done ≡ y * w + w → GrownTo done band → GrownTo ((y + 1) * w) band
  row_done y band done e to = subst (λ (n : ℕ). GrownTo n band) (omega (arith, e, add-mul y 1 w)) to

-- A component's coefficients where LL has grown, inside LL and outside.
use Rattle.std.proofs.Common.{◌≡◌, ℕ, ◌<◌, inl, inr}
use Rattle.std.specs.Prelude.{nat_lt}
use Rattle.std.proofs.lemmas.Bool.{cases_Bool, and_parts, and_from, ltb-true, lt-ltb, cond-true, cond-false}
use Rattle.vc_types.specs.declared.video.Component.{Component}
use Rattle.vc_types.specs.TransformParameters.{Parameters}
use Rattle.vc_types.specs.Transforms.{Cells, is_within, lowest_width, lowest_height}
use Rattle.vc_lowdelay.specs.LowDelay.{predicted, predicted_cells}

module _ (p : Parameters) (c : Component) (cells : Cells) (x y : ℕ) where
  pub within_true : x < lowest_width p c → y < lowest_height p c → predicted_cells p c cells x y ≡ predicted cells x y
  unfolding predicted_cells
  within_true hx hy =
      cond-true (is_within (lowest_width p c) (lowest_height p c) x y) (predicted cells x y) (cells x y)
      (and_from (nat_lt x (lowest_width p c)) (nat_lt y (lowest_height p c)) (lt-ltb x (lowest_width p c) hx) (lt-ltb y (lowest_height p c) hy))

  pub within_false : (x < lowest_width p c → y < lowest_height p c → ⊥) → predicted_cells p c cells x y ≡ cells x y
  unfolding predicted_cells
  within_false out = elim (cases_Bool (is_within (lowest_width p c) (lowest_height p c) x y)) [
    | inl t ↦ (
        let parts = and_parts (nat_lt x (lowest_width p c)) (nat_lt y (lowest_height p c)) t in
        absurd (out (ltb-true x (lowest_width p c) parts.0) (ltb-true y (lowest_height p c) parts.1)))
    | inr f ↦ cond-false (is_within (lowest_width p c) (lowest_height p c) x y) (predicted cells x y) (cells x y) f
  ]

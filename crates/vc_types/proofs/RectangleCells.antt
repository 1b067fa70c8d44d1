-- The cells of a rectangle: which lie in it, and their numbers.
use Rattle.std.proofs.Common.{◌≡◌, ℕ, ◌+◌, ◌-◌, ◌*◌, ◌/◌, ◌%◌, ◌<◌, ◌≤◌, Bool, true, arith, ap, sym, ◌∙◌}
use Rattle.std.specs.Prelude.{nat_lt, nat_le, ◌&&◌}
use Rattle.std.proofs.lemmas.Bool.Decides.{nat_tests}
use Rattle.std.proofs.lemmas.Nat.{mul-add-lt, div-mul-add, mod-mul-add, mod_below, div_below}
use Rattle.std.proofs.Math.Nat.{mul_comm, div-add-mod'}
use Rattle.vc_types.specs.declared.rect.Rect.{Rect}
use Rattle.vc_types.specs.Subbands.{area, Place, place_in}

abbrev pub has_cell : ℕ → ℕ → Rect → Bool
has_cell x y r = (nat_le r.x x && nat_lt x (r.x + r.width)) && (nat_le r.y y && nat_lt y (r.y + r.height))

pub record IsInRect (r : Rect) (x y : ℕ) : Type 0 where
  pub left : r.x ≤ x
  pub right : x < r.x + r.width
  pub top : r.y ≤ y
  pub bottom : y < r.y + r.height

pub has_cell-inside : (x y : ℕ) (r : Rect) → has_cell x y r ≡ true → IsInRect r x y
has_cell-inside x y r h = record { left = grind (arith, nat_tests); right = grind (arith, nat_tests); top = grind (arith, nat_tests); bottom = grind (arith, nat_tests) }

pub inside-has_cell : (x y : ℕ) (r : Rect) → IsInRect r x y → has_cell x y r ≡ true
inside-has_cell x y r w = let a = w.left in let b = w.right in let c = w.top in let d = w.bottom in grind (arith, nat_tests)

pub same_place : (x y a b : ℕ) → x ≡ a → y ≡ b → ◌≡◌ {A = Place} (x, y) (a, b)
same_place x y a b e f = cc

-- the number of a cell
unfoldable pub number_in : Rect → ℕ → ℕ → ℕ
number_in r x y = (y - r.y) * r.width + (x - r.x)

module _ (r : Rect) (x y : ℕ) (within : IsInRect r x y) where
  across : x - r.x < r.width
  across = omega (arith, within.left, within.right)

  down : y - r.y < r.height
  down = omega (arith, within.top, within.bottom)

  pub number_in-below : number_in r x y < area r
  unfolding number_in
  number_in-below = mul-add-lt (y - r.y) r.width (x - r.x) r.height down across

  column : r.x + number_in r x y % r.width ≡ x
  unfolding number_in
  column = rw (mod-mul-add (y - r.y) r.width (x - r.x) across) (omega (arith, within.left))

  row : r.y + number_in r x y / r.width ≡ y
  unfolding number_in
  row = rw (div-mul-add (y - r.y) r.width (x - r.x) across) (omega (arith, within.top))

  pub place_in-number : place_in r (number_in r x y) ≡ (x, y)
  place_in-number = same_place (r.x + number_in r x y % r.width) (r.y + number_in r x y / r.width) x y column row

  pub number_in-only : (j : ℕ) → place_in r j ≡ (x, y) → j ≡ number_in r x y
  unfolding number_in
  number_in-only j e =
      let cx = ap (λ (z : Place). z.0) e in
      let cy = ap (λ (z : Place). z.1) e in
      let a : j % r.width ≡ x - r.x = omega (arith, cx) in
      let b : j / r.width ≡ y - r.y = omega (arith, cy) in
      sym (div-add-mod' j r.width) ∙ ap (λ q. q * r.width + j % r.width) b ∙ ap (λ m. (y - r.y) * r.width + m) a

-- a cell that was numbered lies in the rectangle
pub place_in-inside : (r : Rect) (i : ℕ) → i < area r → IsInRect r (place_in r i).0 (place_in r i).1
place_in-inside r i h =
    let turned : i < r.height * r.width = rw mul_comm h in
    let some : 0 < r.width = grind (arith, nat_tests) in
    let a = mod_below i r.width some in
    let b = div_below i r.width r.height some turned in
    record { left = omega arith; right = omega (arith, a); top = omega arith; bottom = omega (arith, b) }

pub place_in-has_cell : (r : Rect) (i x y : ℕ) → i < area r → place_in r i ≡ (x, y) → has_cell x y r ≡ true
place_in-has_cell r i x y h e =
    sym (ap (λ (z : Place). has_cell z.0 z.1 r) e) ∙ inside-has_cell (place_in r i).0 (place_in r i).1 r (place_in-inside r i h)

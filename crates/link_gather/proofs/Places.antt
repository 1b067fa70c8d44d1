-- The slices of a picture are so few that their number and each one's place fit a word.
use Rattle.std.proofs.Common.{◌≡◌, ℕ, ◌+◌, ◌*◌, ◌<◌, ◌≤◌, true, false, ap, ◌∙◌, arith, Fits, w32}
use Rattle.std.proofs.Math.Nat.{mul-le-mul_left}
use Rattle.std.proofs.lemmas.Bool.{and_from, and_parts, and_right, leb-true, le-leb, lt-leb, lt-ltb}
use Rattle.std.specs.Prelude.{IsTrue, ◌&&◌, nat_le, nat_lt}
use Rattle.vc_types.specs.Limits.{slice_count_fits, slices_fit}

few_slices : (across down : ℕ) → IsTrue (slices_fit across down) → across * down ≤ 131072
few_slices across down fit =
    leb-true (across * down) 131072 (and_parts (slice_count_fits across && slice_count_fits down)
    (nat_le (across * down) 131072) fit).1

pub count_fits : (across down : ℕ) → IsTrue (slices_fit across down) → Fits w32 (across * down)
count_fits across down fit = let few = few_slices across down fit in omega arith

-- the place of a slice that the picture has
module _ (across down : ℕ) (fit : IsTrue (slices_fit across down)) (x y : ℕ) (in_row : x < across) (in_column : y < down) where
  pub place_small : y * across + x < 131072
  place_small =
      let rows = mul-le-mul_left {m = y + 1} {n = down} across (omega arith) in
      omega (arith, rows, few_slices across down fit)

  pub row_fits : Fits w32 (y * across)
  row_fits = let small = place_small in omega arith

  pub place_fits : Fits w32 (y * across + x)
  place_fits = let small = place_small in omega arith

-- whether so many slices from a place on are in the picture; the code's numbers are x', y' and the others
module _ (across down x y count : ℕ) (x' y' first n all : ℕ)
    (x_is : x' ≡ x) (y_is : y' ≡ y) (first_is : first ≡ y' * across + x') (n_is : n ≡ count) (all_is : all ≡ across * down) where
  pub place_is : y' * across + x' ≡ y * across + x
  place_is = ap (λ (k : ℕ). k * across + x') y_is ∙ ap (λ (k : ℕ). y * across + k) x_is

  pub room : first + n ≤ all → y' * across + x' + count ≤ across * down
  room in_picture = omega arith

  pub has_room : x' < across → y' < down → first + n ≤ all
      → (nat_lt x across && nat_lt y down && nat_le (y * across + x + count) (across * down)) ≡ true
  has_room in_row in_column in_picture =
      let end = room in_picture in
      and_from (nat_lt x across && nat_lt y down) (nat_le (y * across + x + count) (across * down))
      (and_from (nat_lt x across) (nat_lt y down) (lt-ltb x across (omega arith)) (lt-ltb y down (omega arith)))
      (le-leb (y * across + x + count) (across * down) (omega (arith, end, place_is)))

  pub no_room : all < first + n
      → (nat_lt x across && nat_lt y down && nat_le (y * across + x + count) (across * down)) ≡ false
  no_room behind =
      and_right (nat_lt x across && nat_lt y down) (nat_le (y * across + x + count) (across * down))
      (lt-leb (y * across + x + count) (across * down) (omega (arith, place_is)))

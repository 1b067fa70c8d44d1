-- What a function says of each place, row by row: how long the list is, and what it has at each place.
use Rattle.std.proofs.Common.{◌≡◌, ℕ, zero, suc, ◌+◌, ◌-◌, ◌*◌, ◌/◌, ◌%◌, ◌<◌, ◌≤◌, List, ◌++◌, length, get_or, map, All, arith, ap, sym, subst, ◌∙◌, ◌⊎◌, inl, inr, length-append}
use Rattle.std.specs.List.{flat_map, range_with_len}
use Rattle.std.proofs.lemmas.Bool.{cases_lt}
use Rattle.std.proofs.lemmas.List.{ext_get_or, get_or_append_left, get_or-append_right}
use Rattle.std.proofs.lemmas.List.Concat.{flat_map-cons}
use Rattle.std.proofs.lemmas.List.Elements.{All-from_get_or}
use Rattle.std.proofs.lemmas.List.FromFn.{length-map-range_with_len, get_or-map-range_with_len}
use Rattle.std.proofs.lemmas.Nat.{mod_below, div_below}
use Rattle.vc_types.specs.Rasters.{raster}

module _ {A : Type 0} (w : ℕ) (f : ℕ → ℕ → A) where
  row : ℕ → List A
  row y = map (λ x. f x y) (range_with_len 0 w)

  rows : ℕ → ℕ → List A
  rows m h = flat_map row (range_with_len m h)

  row-length : (y : ℕ) → length (row y) ≡ w
  unfolding row
  row-length y = length-map-range_with_len (λ x. f x y) 0 w

  row-at : (y x : ℕ) (d : A) → x < w → get_or (row y) x d ≡ f x y
  unfolding row
  row-at y x d h = get_or-map-range_with_len (λ x. f x y) 0 w x x d h (omega arith)

  rows-more : (m h : ℕ) → rows m (suc h) ≡ row m ++ rows (m + 1) h
  unfolding rows
  rows-more m h = flat_map-cons row m (range_with_len (m + 1) h)

  rows-length : (m h : ℕ) → length (rows m h) ≡ h * w
  unfolding rows
  rows-length m zero = omega arith
  rows-length m (suc h) =
      ap length (rows-more m h) ∙ length-append (row m) (rows (m + 1) h)
      ∙ (let own = row-length m in let others = rows-length (m + 1) h in omega (arith, own, others))

  rows-at : (m h x y : ℕ) (d : A) → x < w → y < h → get_or (rows m h) (y * w + x) d ≡ f x (m + y)
  rows-at m zero x y d across down = absurd (omega arith)
  rows-at m (suc h) x zero d across down =
      let own = row-length m in
      let first : 0 * w + x ≡ x = omega arith in
      ap (λ xs. get_or xs (0 * w + x) d) (rows-more m h)
      ∙ ap (λ n. get_or (row m ++ rows (m + 1) h) n d) first
      ∙ get_or_append_left (row m) (rows (m + 1) h) d x (omega (arith, own))
      ∙ row-at m x d across
      ∙ (let here : m ≡ m + 0 = omega arith in ap (f x) here)
  rows-at m (suc h) x (suc y) d across down =
      let past : w ≤ suc y * w + x = omega arith in
      let back : suc y * w + x - w ≡ y * w + x = omega arith in
      ap (λ xs. get_or xs (suc y * w + x) d) (rows-more m h)
      ∙ get_or-append_right (row m) (rows (m + 1) h) w (suc y * w + x) d (row-length m) past
      ∙ ap (λ n. get_or (rows (m + 1) h) n d) back
      ∙ rows-at (m + 1) h x y d across (omega arith)
      ∙ (let next : m + 1 + y ≡ m + suc y = omega arith in ap (f x) next)

  pub length-raster : (h : ℕ) → length (raster w h f) ≡ h * w
  unfolding raster rows row
  length-raster h = rows-length 0 h

  pub raster-at : (h x y : ℕ) (d : A) → x < w → y < h → get_or (raster w h f) (y * w + x) d ≡ f x y
  unfolding raster rows row
  raster-at h x y d across down = rows-at 0 h x y d across down ∙ (let here : 0 + y ≡ y = omega arith in ap (f x) here)

  -- each number below h * w is one of a place
  by_place : (h : ℕ) (P : ℕ → Type 0) → ((x y : ℕ) → x < w → y < h → P (y * w + x)) → (i : ℕ) → i < h * w → P i
  by_place h P at i below =
      let some : 0 < w = some_columns (cases_lt 0 w) in
      let place : i / w * w + i % w ≡ i = omega arith in
      subst P place (at (i % w) (i / w) (mod_below i w some) (div_below i w h some below))
    where
      some_columns : (0 < w) ⊎ (w ≤ 0) → 0 < w
      some_columns (inl some) = some
      some_columns (inr none) = (let empty : w ≡ 0 = omega arith in absurd (omega (arith, ap (λ n. h * n) empty)))

  -- a list with those elements is the raster
  pub raster-is : (h : ℕ) (xs : List A) (d : A) → length xs ≡ h * w → ((x y : ℕ) → x < w → y < h → get_or xs (y * w + x) d ≡ f x y) → xs ≡ raster w h f
  raster-is h xs d whole at =
      ext_get_or d xs (raster w h f) (whole ∙ sym (length-raster h))
      (λ i below. by_place h (λ i. get_or xs i d ≡ get_or (raster w h f) i d) (λ x y across down. at x y across down ∙ sym (raster-at h x y d across down)) i (omega (arith, whole)))

  -- what is true of each place is true of each element
  pub raster-all : (h : ℕ) (P : A → Type 0) (d : A) → ((x y : ℕ) → P (f x y)) → All P (raster w h f)
  raster-all h P d each = All-from_get_or P (raster w h f) d (λ i below. (
      let whole = length-raster h in
      by_place h (λ i. P (get_or (raster w h f) i d)) (λ x y across down. subst P (sym (raster-at h x y d across down)) (each x y)) i (omega (arith, whole))))

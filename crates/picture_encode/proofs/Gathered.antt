-- The numbers of a slice as its rectangles are walked, subband by subband and row by row.
use Rattle.std.proofs.Common.{◌≡◌, ℕ, ℤ, pos, zero, suc, ◌+◌, ◌-◌, ◌*◌, ◌/◌, ◌%◌, ◌<◌, ◌≤◌, Bool, true, cond, List, [], ◌∷◌, ◌++◌, length, map, take, drop, sym, ap, ◌∙◌, append_assoc, append-nil, arith}
use Rattle.std.proofs.Math.Nat.{mul-le-mul_right}
use Rattle.std.specs.Prelude.{slice_index_or, slice_range, nat_lt, ◌&&◌}
use Rattle.std.specs.List.{range_with_len}
use Rattle.std.proofs.lemmas.Bool.Decides.{nat_tests}
use Rattle.std.proofs.lemmas.List.{ext_get_or, length-take-le, length-drop, get_or-take, get_or-drop}
use Rattle.std.proofs.lemmas.List.FromFn.{map-range_with_len_more, length-map-range_with_len, get_or-map-range_with_len}
use Rattle.std.proofs.lemmas.Nat.{div-mul-add, mod-mul-add}
use Rattle.std.proofs.Math.Nat.{add-mul}
use Rattle.link_model.specs.SendingPictures.{number_at_place}
use Rattle.vc_types.specs.declared.rect.Rect.{Rect}
use Rattle.vc_types.specs.Rasters.{Lattice, cell_at}
use Rattle.vc_types.specs.Subbands.{place_in}

-- what a function says of so many numbers and of more
pub range_parts : {X : Type 0} (f : ℕ → X) (n m : ℕ) → map f (range_with_len 0 (n + m)) ≡ map f (range_with_len 0 n) ++ map (λ j. f (n + j)) (range_with_len 0 m)
range_parts f n zero =
    let none : n + 0 ≡ n = omega arith in
    ap (λ k. map f (range_with_len 0 k)) none ∙ sym (append-nil (map f (range_with_len 0 n)))
range_parts f n (suc m) =
    let more : n + suc m ≡ n + m + 1 = omega arith in
    let next : suc m ≡ m + 1 = omega arith in
    ap (λ k. map f (range_with_len 0 k)) more
    ∙ map-range_with_len_more f 0 (n + m) (n + m) (omega arith)
    ∙ ap (λ l. l ++ f (n + m) ∷ []) (range_parts f n m)
    ∙ append_assoc (map f (range_with_len 0 n)) (map (λ j. f (n + j)) (range_with_len 0 m)) (f (n + m) ∷ [])
    ∙ ap (λ l. map f (range_with_len 0 n) ++ l) (sym (map-range_with_len_more (λ j. f (n + j)) 0 m m (omega arith)))
    ∙ ap (λ k. map f (range_with_len 0 n) ++ map (λ j. f (n + j)) (range_with_len 0 k)) (sym next)

-- functions that say the same
pub range_same : {X : Type 0} (d : X) (f g : ℕ → X) (n : ℕ) → ((i : ℕ) → i < n → f i ≡ g i) → map f (range_with_len 0 n) ≡ map g (range_with_len 0 n)
range_same d f g n h =
    ext_get_or d (map f (range_with_len 0 n)) (map g (range_with_len 0 n)) (length-map-range_with_len f 0 n ∙ sym (length-map-range_with_len g 0 n))
    (λ i lt.
    let inside : i < n = omega (arith, length-map-range_with_len f 0 n) in
    get_or-map-range_with_len f 0 n i i d inside (omega arith) ∙ h i inside ∙ sym (get_or-map-range_with_len g 0 n i i d inside (omega arith)))

-- a part of a list, place by place
pub part_is : {X : Type 0} (d : X) (xs : List X) (a n : ℕ) → a + n ≤ length xs → slice_range xs a (a + n) ≡ map (λ j. slice_index_or xs (a + j) d) (range_with_len 0 n)
part_is d xs a n h =
    let many : a + n - a ≡ n = omega arith in
    let long : length (take n (drop a xs)) ≡ n = length-take-le n (drop a xs) (omega (arith, length-drop a xs)) in
    ap (λ k. take k (drop a xs)) many
    ∙ ext_get_or d (take n (drop a xs)) (map (λ j. slice_index_or xs (a + j) d) (range_with_len 0 n)) (long ∙ sym (length-map-range_with_len (λ j. slice_index_or xs (a + j) d) 0 n))
    (λ i lt.
    let inside : i < n = omega (arith, long) in
    get_or-take n (drop a xs) i d inside ∙ get_or-drop a xs i d ∙ sym (get_or-map-range_with_len (λ j. slice_index_or xs (a + j) d) 0 n i i d inside (omega arith)))

pub row_end : (row rows width : ℕ) → row < rows → row * width + width ≤ width * rows
row_end row rows width h = omega (arith, mul-le-mul_right width h)

inside : (a b m n : ℕ) → a < m → b < n → (nat_lt a m && nat_lt b n) ≡ true
inside a b m n h k = grind (arith, nat_tests)

-- one row of a rectangle
module _ (g : Lattice) (r : Rect) (whole : length g.cells ≡ g.width * g.height) (across : r.x + r.width ≤ g.width) (down : r.y + r.height ≤ g.height) where
  pub row_within : (row : ℕ) → row < r.height → (r.y + row) * g.width + r.x + r.width ≤ length g.cells
  row_within row h = let e = row_end (r.y + row) g.height g.width (omega arith) in omega (arith, e, whole)

  number_at : (row j : ℕ) → row < r.height → j < r.width → slice_index_or g.cells ((r.y + row) * g.width + r.x + j) (pos 0) ≡ number_at_place (cell_at g) (place_in r (row * r.width + j))
  unfolding cell_at
  number_at row j h k =
      let n = row * r.width + j in
      let x : n % r.width ≡ j = mod-mul-add row r.width j k in
      let y : n / r.width ≡ row = div-mul-add row r.width j k in
      let there : (r.y + row) * g.width + r.x + j ≡ (r.y + row) * g.width + (r.x + j) = omega arith in
      let is_in = inside (r.x + j) (r.y + row) g.width g.height (omega arith) (omega arith) in
      let one : slice_index_or g.cells ((r.y + row) * g.width + r.x + j) (pos 0) ≡ cell_at g (r.x + j) (r.y + row) =
      ap (λ i. slice_index_or g.cells i (pos 0)) there
      ∙ ap (λ (b : Bool). cond b (slice_index_or g.cells ((r.y + row) * g.width + (r.x + j)) (pos 0)) (pos 0)) (sym is_in) in
      one ∙ (λ i. cell_at g (r.x + sym x i) (r.y + sym y i))

  pub row_numbers : (row : ℕ) → row < r.height → slice_range g.cells ((r.y + row) * g.width + r.x) ((r.y + row) * g.width + r.x + r.width) ≡ map (λ j. number_at_place (cell_at g) (place_in r (row * r.width + j))) (range_with_len 0 r.width)
  row_numbers row h =
      part_is (pos 0) g.cells ((r.y + row) * g.width + r.x) r.width (row_within row h)
      ∙ range_same (pos 0) (λ j. slice_index_or g.cells ((r.y + row) * g.width + r.x + j) (pos 0)) (λ j. number_at_place (cell_at g) (place_in r (row * r.width + j))) r.width (λ j k. number_at row j h k)

  -- the numbers of the first rows, and those of one more
  abbrev pub first_rows : ℕ → List ℤ
  first_rows row = map (λ i. number_at_place (cell_at g) (place_in r i)) (range_with_len 0 (row * r.width))

  rows_more : (row : ℕ) → row < r.height → first_rows row ++ slice_range g.cells ((r.y + row) * g.width + r.x) ((r.y + row) * g.width + r.x + r.width) ≡ first_rows (row + 1)
  rows_more row h =
      let one : 1 * r.width ≡ r.width = omega arith in
      let more : (row + 1) * r.width ≡ row * r.width + r.width = add-mul row 1 r.width ∙ ap (λ n. row * r.width + n) one in
      ap (λ l. first_rows row ++ l) (row_numbers row h)
      ∙ sym (range_parts (λ i. number_at_place (cell_at g) (place_in r i)) (row * r.width) r.width)
      ∙ ap (λ n. map (λ i. number_at_place (cell_at g) (place_in r i)) (range_with_len 0 n)) (sym more)

  pub pushed : (stride row : ℕ) (cells before now new : List ℤ) → stride ≡ g.width → cells ≡ g.cells → row < r.height
      → now ≡ before ++ first_rows row
      → new ≡ now ++ slice_range cells ((r.y + row) * stride + r.x) ((r.y + row) * stride + r.x + r.width)
      → new ≡ before ++ first_rows (row + 1)
  pushed stride row cells before now new same own h was is =
      is
      ∙ (λ i. was i ++ slice_range (own i) ((r.y + row) * same i + r.x) ((r.y + row) * same i + r.x + r.width))
      ∙ append_assoc before (first_rows row) (slice_range g.cells ((r.y + row) * g.width + r.x) ((r.y + row) * g.width + r.x + r.width))
      ∙ ap (λ l. before ++ l) (rows_more row h)

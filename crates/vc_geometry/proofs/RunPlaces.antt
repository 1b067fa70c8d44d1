-- Where the coefficients of a run's slices stand in its strip.
use Rattle.std.proofs.Common.{◌≡◌, ℕ, zero, suc, ◌+◌, ◌-◌, ◌*◌, ◌/◌, ◌%◌, ◌<◌, ◌≤◌, List, [], ◌∷◌, length, map, take, arith, refl, ap, sym, subst, ◌∙◌, inl, inr}
use Rattle.std.specs.Prelude.{nat_lt, slice_index_or}
use Rattle.std.specs.List.{sum_by}
use Rattle.std.proofs.lemmas.Bool.{cases_lt, cond-true, cond-false, lt-ltb, le-ltb}
use Rattle.std.proofs.lemmas.List.Sums.{sum_by-cons}
use Rattle.std.proofs.lemmas.Nat.{mul-add-lt, div-mul-add, mod-mul-add, div_below, le-div}
use Rattle.std.proofs.Math.Nat.{div-add-mod', div-mul-le_self, mul-le-mul_left}
use Rattle.vc_types.specs.declared.rect.Rect.{Rect}
use Rattle.vc_types.specs.declared.video.Component.{Component}
use Rattle.vc_types.specs.Subbands.{rect, Subband, subbands, subband_rectangle, share_start, slice_column, slice_row, slice_count, slice_rectangle, slice_rectangles, slice_coefficient_count, coefficient_place, area, place_in, place_among}
use Rattle.vc_types.specs.TransformParameters.{Parameters}
use Rattle.vc_types.proofs.RectangleCells.{IsInRect, number_in, number_in-below, number_in-only, place_in-number, place_in-inside}
use Rattle.vc_types.proofs.SliceRectangles.{place_among-first, place_among-rest}
use Rattle.vc_geometry.specs.Runs.{IsRun, IsOfRun, run_rectangle, run_rectangles, run_coefficient_count, cell_of, cell_among, strip_number}
use Rattle.vc_geometry.proofs.Placements.{places-apart}

-- ---- a rectangle in another

pub record IsPartOf (part whole : Rect) : Type 0 where
  pub left : whole.x ≤ part.x
  pub right : part.x + part.width ≤ whole.x + whole.width
  pub top : whole.y ≤ part.y
  pub bottom : part.y + part.height ≤ whole.y + whole.height

module _ (part whole : Rect) (within : IsPartOf part whole) (j : ℕ) (h : j < area part) where
  held : IsInRect whole (place_in part j).0 (place_in part j).1
  held =
      let inside = place_in-inside part j h in
      record {
        left = omega (arith, inside.left, within.left);
        right = omega (arith, inside.right, within.right);
        top = omega (arith, inside.top, within.top);
        bottom = omega (arith, inside.bottom, within.bottom);
      }

  pub cell-below : cell_of whole (place_in part j) < area whole
  unfolding number_in
  cell-below = number_in-below whole (place_in part j).0 (place_in part j).1 held

  pub cell-place : place_in whole (cell_of whole (place_in part j)) ≡ place_in part j
  unfolding number_in
  cell-place = place_in-number whole (place_in part j).0 (place_in part j).1 held

-- the cell of a place is its own
pub cell-only : (r : Rect) (j : ℕ) → j < area r → cell_of r (place_in r j) ≡ j
unfolding number_in
cell-only r j h = sym (number_in-only r (place_in r j).0 (place_in r j).1 (place_in-inside r j h) j refl)

-- ---- lists of them

pub cell_among-first : (whole part : Rect) (wholes parts : List Rect) (i : ℕ) → i < area part → cell_among (whole ∷ wholes) (part ∷ parts) i ≡ cell_of whole (place_in part i)
unfolding cell_among
cell_among-first whole part wholes parts i h = cond-true (nat_lt i (area part)) (cell_of whole (place_in part i)) (area whole + cell_among wholes parts (i - area part)) (lt-ltb i (area part) h)

pub cell_among-rest : (whole part : Rect) (wholes parts : List Rect) (i : ℕ) → area part ≤ i → cell_among (whole ∷ wholes) (part ∷ parts) i ≡ area whole + cell_among wholes parts (i - area part)
unfolding cell_among
cell_among-rest whole part wholes parts i h = cond-false (nat_lt i (area part)) (cell_of whole (place_in part i)) (area whole + cell_among wholes parts (i - area part)) (le-ltb i (area part) h)

-- a cell of parts, as a cell of the wholes
record IsCellOf (wholes parts : List Rect) (i : ℕ) : Type 0 where
  below : cell_among wholes parts i < sum_by area wholes
  place : place_among wholes (cell_among wholes parts i) ≡ place_among parts i

module _ {B : Type 0} (whole part : B → Rect) (within : (b : B) → IsPartOf (part b) (whole b)) where
  among : (bs : List B) (i : ℕ) → i < sum_by area (map part bs) → IsCellOf (map whole bs) (map part bs) i
  among [] i h = absurd (omega arith)
  among (b ∷ bs) i h = elim (cases_lt i (area (part b))) [
    | inl lt ↦ (
        let is = cell_among-first (whole b) (part b) (map whole bs) (map part bs) i lt in
        let below = cell-below (part b) (whole b) (within b) i lt in
        let total = sum_by-cons area (whole b) (map whole bs) in
        record {
          below = omega (arith, is, below, total);
          place = ap (place_among (map whole (b ∷ bs))) is ∙ place_among-first (whole b) (map whole bs) (cell_of (whole b) (place_in (part b) i)) below
              ∙ cell-place (part b) (whole b) (within b) i lt ∙ sym (place_among-first (part b) (map part bs) i lt);
        })
    | inr ge ↦ (
        let rest = among bs (i - area (part b)) (let t = sum_by-cons area (part b) (map part bs) in omega (arith, t)) in
        let is = cell_among-rest (whole b) (part b) (map whole bs) (map part bs) i ge in
        let total = sum_by-cons area (whole b) (map whole bs) in
        let n = cell_among (map whole bs) (map part bs) (i - area (part b)) in
        let back : area (whole b) + n - area (whole b) ≡ n = omega arith in
        record {
          below = omega (arith, is, rest.below, total);
          place = ap (place_among (map whole (b ∷ bs))) is ∙ place_among-rest (whole b) (map whole bs) (area (whole b) + n) (omega arith) ∙ ap (place_among (map whole bs)) back
              ∙ rest.place ∙ sym (place_among-rest (part b) (map part bs) i ge);
        })
  ]

-- cell j of part number b
module _ {B : Type 0} (whole part : B → Rect) (none : B) where
  pub walk : (bs : List B) (b j : ℕ) → b < length bs → j < area (part (slice_index_or bs b none))
      → cell_among (map whole bs) (map part bs) (sum_by area (take b (map part bs)) + j)
      ≡ sum_by area (take b (map whole bs)) + cell_of (whole (slice_index_or bs b none)) (place_in (part (slice_index_or bs b none)) j)
  walk [] b j h lt = absurd (omega arith)
  walk (x ∷ bs) zero j h lt =
      let none_before : 0 + j ≡ j = omega arith in
      let is : cell_of (whole x) (place_in (part x) j) ≡ 0 + cell_of (whole x) (place_in (part x) j) = omega arith in
      ap (cell_among (map whole (x ∷ bs)) (map part (x ∷ bs))) none_before ∙ cell_among-first (whole x) (part x) (map whole bs) (map part bs) j lt ∙ is
  walk (x ∷ bs) (suc b) j h lt =
      let parts = sum_by-cons area (part x) (take b (map part bs)) in
      let wholes = sum_by-cons area (whole x) (take b (map whole bs)) in
      let number : sum_by area (take (suc b) (map part (x ∷ bs))) + j ≡ area (part x) + (sum_by area (take b (map part bs)) + j) = omega (arith, parts) in
      let back : area (part x) + (sum_by area (take b (map part bs)) + j) - area (part x) ≡ sum_by area (take b (map part bs)) + j = omega arith in
      let next = walk bs b j (omega arith) lt in
      let is = cell_among-rest (whole x) (part x) (map whole bs) (map part bs) (area (part x) + (sum_by area (take b (map part bs)) + j)) (omega arith) in
      ap (cell_among (map whole (x ∷ bs)) (map part (x ∷ bs))) number ∙ is ∙ ap (λ n. area (whole x) + cell_among (map whole bs) (map part bs) n) back
      ∙ ap (λ n. area (whole x) + n) next ∙ omega (arith, wholes)

-- ---- the columns of a run

share_start-up : (side n k m : ℕ) → k ≤ m → share_start side n k ≤ share_start side n m
share_start-up side n k m h = elim (cases_lt 0 n) [
  | inl some ↦ (
      let less = div-mul-le_self (side * k) n in
      let more = mul-le-mul_left side h in
      le-div (side * k / n) (side * m) n some (omega (arith, less, more)))
  | inr none ↦ (let e : n ≡ 0 = omega arith in subst (λ q. side * k / q ≤ side * m / q) (sym e) (omega arith))
]

-- a stretch from one step to a later one has each of its places between two steps
record IsStep (s : ℕ → ℕ) (from count z : ℕ) : Type 0 where
  step : ℕ
  step_below : step < count
  low : s (from + step) ≤ z
  high : z < s (from + step + 1)

stepped : (s : ℕ → ℕ) (from count z : ℕ) → s from ≤ z → z < s (from + count) → IsStep s from count z
stepped s from zero z low high = absurd (let e : from + zero ≡ from = omega arith in let same = ap s e in omega (arith, same))
stepped s from (suc count) z low high = elim (cases_lt z (s (from + count))) [
  | inl lt ↦ (let before = stepped s from count z low lt in record { step = before.step; step_below = (let h = before.step_below in omega (arith, h)); low = before.low; high = before.high })
  | inr ge ↦ record { step = count; step_below = omega arith; low = ge; high = (let e : from + suc count ≡ from + count + 1 = omega arith in subst (λ n. z < s n) e high) }
]

module _ (p : Parameters) (c : Component) (first count : ℕ) (run : IsRun p first count) where
  -- the slice that is number k of the run
  module _ (k : ℕ) (h : k < count) where
    across : slice_column p first + k < p.slices_x
    across = omega (arith, run.in_row)

    first-is : first ≡ slice_row p first * p.slices_x + slice_column p first
    first-is = sym (div-add-mod' first p.slices_x)

    number-is : first + k ≡ slice_row p first * p.slices_x + (slice_column p first + k)
    number-is = omega (arith, first-is)

    pub column-is : slice_column p (first + k) ≡ slice_column p first + k
    column-is = ap (λ n. n % p.slices_x) number-is ∙ mod-mul-add (slice_row p first) p.slices_x (slice_column p first + k) across

    pub row-is : slice_row p (first + k) ≡ slice_row p first
    row-is = ap (λ n. n / p.slices_x) number-is ∙ div-mul-add (slice_row p first) p.slices_x (slice_column p first + k) across

    pub numbered : first + k < slice_count p
    numbered =
        let row = div_below first p.slices_x p.slices_y (omega (arith, across)) (omega (arith, run.in_plan)) in
        let below = mul-add-lt (slice_row p first) p.slices_x (slice_column p first + k) p.slices_y row across in
        omega (arith, number-is, below)

    module _ (b : Subband) where
      abbrev band : Rect
      band = subband_rectangle p c b

      -- the rectangle of a slice, by the run's first
      pub slice-is : slice_rectangle p c b (first + k) ≡ run_rectangle p c (first + k) 1 b
      unfolding slice_rectangle run_rectangle
      slice-is = refl

      pub within-run : IsPartOf (slice_rectangle p c b (first + k)) (run_rectangle p c first count b)
      unfolding slice_rectangle run_rectangle
      within-run =
          let low = share_start-up band.width p.slices_x (slice_column p first) (slice_column p (first + k)) (omega (arith, column-is)) in
          let mid = share_start-up band.width p.slices_x (slice_column p (first + k)) (slice_column p (first + k) + 1) (omega arith) in
          let high = share_start-up band.width p.slices_x (slice_column p (first + k) + 1) (slice_column p first + count) (omega (arith, column-is)) in
          let top = ap (share_start band.height p.slices_y) row-is in
          let bottom = ap (λ n. share_start band.height p.slices_y (n + 1)) row-is in
          record { left = omega (arith, low); right = omega (arith, low, mid, high); top = omega (arith, top); bottom = omega (arith, top, bottom) }

  -- the slice of a cell of the run's rectangle in a subband, and the cell there
  pub record IsOfSlice (b : Subband) (j : ℕ) : Type 0 where
    pub k : ℕ
    pub cell : ℕ
    pub k_below : k < count
    pub cell_below : cell < area (slice_rectangle p c b (first + k))
    pub place : place_in (slice_rectangle p c b (first + k)) cell ≡ place_in (run_rectangle p c first count b) j

  module _ (b : Subband) (j : ℕ) (h : j < area (run_rectangle p c first count b)) where
    abbrev start : ℕ → ℕ
    start n = (subband_rectangle p c b).x + share_start (subband_rectangle p c b).width p.slices_x n

    abbrev whole : Rect
    whole = run_rectangle p c first count b

    step : IsStep start (slice_column p first) count (place_in whole j).0
    unfolding run_rectangle
    step =
        let inside = place_in-inside whole j h in
        let up = share_start-up (subband_rectangle p c b).width p.slices_x (slice_column p first) (slice_column p first + count) (omega arith) in
        stepped start (slice_column p first) count (place_in whole j).0 inside.left (omega (arith, inside.right, up))

    in-slice : IsInRect (slice_rectangle p c b (first + step.step)) (place_in whole j).0 (place_in whole j).1
    unfolding slice_rectangle run_rectangle
    in-slice =
        let inside = place_in-inside whole j h in
        let low = step.low in
        let high = step.high in
        let column = ap start (column-is step.step step.step_below) in
        let behind = ap (λ n. start (n + 1)) (column-is step.step step.step_below) in
        let top = ap (share_start (subband_rectangle p c b).height p.slices_y) (row-is step.step step.step_below) in
        let bottom = ap (λ n. share_start (subband_rectangle p c b).height p.slices_y (n + 1)) (row-is step.step step.step_below) in
        record {
          left = omega (arith, low, column);
          right = omega (arith, high, column, behind);
          top = omega (arith, inside.top, top);
          bottom = omega (arith, inside.bottom, top, bottom);
        }

    pub of-slice : IsOfSlice b j
    of-slice =
        let r = slice_rectangle p c b (first + step.step) in
        let x = (place_in whole j).0 in
        let y = (place_in whole j).1 in
        record {
          k = step.step;
          cell = number_in r x y;
          k_below = step.step_below;
          cell_below = number_in-below r x y in-slice;
          place = place_in-number r x y in-slice;
        }

  -- ---- in the strip

  module _ (k i : ℕ) (h : k < count) (below : i < slice_coefficient_count p c (first + k)) where
    is-cell : IsCellOf (run_rectangles p c first count) (slice_rectangles p c (first + k)) i
    unfolding slice_coefficient_count
    is-cell = among (run_rectangle p c first count) (λ b. slice_rectangle p c b (first + k)) (within-run k h) (subbands p.depth_ho p.depth) i below

    -- each coefficient has a number in the strip
    pub strip-below : strip_number p c first count (first + k) i < run_coefficient_count p c first count
    unfolding strip_number run_coefficient_count
    strip-below = is-cell.below

    -- which stands at its place
    pub strip-place : place_among (run_rectangles p c first count) (strip_number p c first count (first + k) i) ≡ coefficient_place p c (first + k) i
    unfolding strip_number coefficient_place
    strip-place = is-cell.place

  -- no two have one number
  pub strip-apart : 0 < p.slices_x → 0 < p.slices_y → (k i l j : ℕ) → k < count → i < slice_coefficient_count p c (first + k) → l < count → j < slice_coefficient_count p c (first + l)
      → strip_number p c first count (first + k) i ≡ strip_number p c first count (first + l) j → (k ≡ l) × (i ≡ j)
  strip-apart some_across some_down k i l j hk hi hl hj e =
      let same = places-apart p c some_across some_down (first + k) i (first + l) j (numbered k hk) hi (numbered l hl) hj
      (sym (strip-place k i hk hi) ∙ ap (place_among (run_rectangles p c first count)) e ∙ strip-place l j hl hj) in
      (omega (arith, same.0), same.1)

  -- the run's rectangle from those of its first and its last slice
  module _ (k : ℕ) (last : k + 1 ≡ count) (b : Subband) where
    abbrev one : Rect
    one = slice_rectangle p c b first

    abbrev end : Rect
    end = slice_rectangle p c b (first + k)

    pub ends-ordered : one.x ≤ end.x + end.width
    unfolding slice_rectangle
    ends-ordered =
        let side = (subband_rectangle p c b).width in
        let low = share_start-up side p.slices_x (slice_column p first) (slice_column p (first + k)) (omega (arith, column-is k (omega arith))) in
        omega (arith, low)

    pub run-ends : rect one.x one.y (end.x + end.width - one.x) one.height ≡ run_rectangle p c first count b
    unfolding slice_rectangle run_rectangle
    run-ends =
        let r = subband_rectangle p c b in
        let col = column-is k (omega arith) in
        let low = share_start-up r.width p.slices_x (slice_column p first) (slice_column p (first + k)) (omega (arith, col)) in
        let up = share_start-up r.width p.slices_x (slice_column p (first + k)) (slice_column p (first + k) + 1) (omega arith) in
        let behind : share_start r.width p.slices_x (slice_column p (first + k) + 1) ≡ share_start r.width p.slices_x (slice_column p first + count) = ap (share_start r.width p.slices_x) (omega (arith, col)) in
        ap (λ w. rect one.x one.y w one.height) (omega (arith, low, up, behind))

-- ---- how many coefficients

smaller : (part whole : Rect) → IsPartOf part whole → area part ≤ area whole
smaller part whole within =
    let wide : part.width ≤ whole.width = omega (arith, within.left, within.right) in
    let high : part.height ≤ whole.height = omega (arith, within.top, within.bottom) in
    let rows = mul-le-mul_left part.width high in
    let columns = mul-le-mul_left whole.height wide in
    omega (arith, rows, columns)

fewer : {B : Type 0} (whole part : B → Rect) → ((b : B) → IsPartOf (part b) (whole b)) → (bs : List B) → sum_by area (map part bs) ≤ sum_by area (map whole bs)
fewer whole part within [] = omega arith
fewer whole part within (b ∷ bs) =
    let rest = fewer whole part within bs in
    let one = smaller (part b) (whole b) (within b) in
    let parts = sum_by-cons area (part b) (map part bs) in
    let wholes = sum_by-cons area (whole b) (map whole bs) in
    omega (arith, rest, one, parts, wholes)

-- a slice has at most as many as its run
pub slice-fewer : (p : Parameters) (c : Component) (first count : ℕ) → IsRun p first count → (k : ℕ) → k < count → slice_coefficient_count p c (first + k) ≤ run_coefficient_count p c first count
unfolding slice_coefficient_count run_coefficient_count
slice-fewer p c first count run k h = fewer (run_rectangle p c first count) (λ b. slice_rectangle p c b (first + k)) (within-run p c first count run k h) (subbands p.depth_ho p.depth)

-- ---- slices by their own numbers

module _ (p : Parameters) (c : Component) (first count : ℕ) (run : IsRun p first count) (n : ℕ) (of : IsOfRun first count n) where
  its_number : first + (n - first) ≡ n
  its_number = omega (arith, of.from)

  below_count : n - first < count
  below_count = omega (arith, of.from, of.to)

  pub numbered-of : n < slice_count p
  numbered-of = subst (λ m. m < slice_count p) its_number (numbered p c first count run (n - first) below_count)

  pub part-of-run : (b : Subband) → IsPartOf (slice_rectangle p c b n) (run_rectangle p c first count b)
  part-of-run b = subst (λ m. IsPartOf (slice_rectangle p c b m) (run_rectangle p c first count b)) its_number (within-run p c first count run (n - first) below_count b)

  pub fewer-of : slice_coefficient_count p c n ≤ run_coefficient_count p c first count
  fewer-of = subst (λ m. slice_coefficient_count p c m ≤ run_coefficient_count p c first count) its_number (slice-fewer p c first count run (n - first) below_count)

  pub strip-below-of : (i : ℕ) → i < slice_coefficient_count p c n → strip_number p c first count n i < run_coefficient_count p c first count
  strip-below-of i = subst (λ m. i < slice_coefficient_count p c m → strip_number p c first count m i < run_coefficient_count p c first count) its_number (strip-below p c first count run (n - first) i below_count)

pub strip-apart-of : (p : Parameters) (c : Component) (first count : ℕ) → IsRun p first count → 0 < p.slices_x → 0 < p.slices_y → (n m : ℕ) → IsOfRun first count n → IsOfRun first count m
    → (i j : ℕ) → i < slice_coefficient_count p c n → j < slice_coefficient_count p c m → strip_number p c first count n i ≡ strip_number p c first count m j → (n ≡ m) × (i ≡ j)
strip-apart-of p c first count run some_across some_down n m of_n of_m i j hi hj e =
    let at_n : first + (n - first) ≡ n = omega (arith, of_n.from) in
    let at_m : first + (m - first) ≡ m = omega (arith, of_m.from) in
    let same = strip-apart p c first count run some_across some_down (n - first) i (m - first) j
    (omega (arith, of_n.from, of_n.to)) (subst (λ a. i < slice_coefficient_count p c a) (sym at_n) hi)
    (omega (arith, of_m.from, of_m.to)) (subst (λ a. j < slice_coefficient_count p c a) (sym at_m) hj)
    (ap (λ a. strip_number p c first count a i) at_n ∙ e ∙ ap (λ a. strip_number p c first count a j) (sym at_m)) in
    (omega (arith, same.0, of_n.from, of_m.from), same.1)

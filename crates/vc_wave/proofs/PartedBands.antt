-- Bands of a level of the forward transform: rows and columns that are analysed in part, and rows that are
-- left in a list.
use Rattle.std.proofs.Common.{◌≡◌, ℕ, ◌+◌, ◌-◌, ◌*◌, ◌<◌, ◌≤◌, List, ℤ, arith, ap, sym, ◌∙◌, min}
use Rattle.std.proofs.lemmas.Nat.{mul-add-lt}
use Rattle.vc_types.specs.Lifting.{line_of}
use Rattle.vc_types.specs.Transforms.{Cells, on_columns, on_rows}
use Rattle.vc_types.specs.Wavelets.{is_shifted, analysed}
use Rattle.vc_lift.specs.Reach.{HoldsPairs}
use Rattle.vc_wave.proofs.AnalysedParts.{analysis_in_part}
use Rattle.vc_wave.specs.declared.pass.Direction.TheVariants.{Analysis}
use Rattle.vc_wave.specs.Planes.{plane_of}
use Rattle.vc_wave.specs.Remade.{remade, parted_in_turn}
use Rattle.vc_wave.proofs.PlaneLines.{column_in, row_in}
use Rattle.vc_wave.proofs.PlaneSteps.{plane_in}

-- columns of a part of a plane's rows, once the rows are analysed
module _ (wavelet w h from to first pairs : ℕ) (holds : HoldsPairs wavelet h from to first pairs) (whole : Cells)
    (old new : List ℤ)
    (rows : (x k : ℕ) → x < 2 * w → k < 2 * pairs → line_of old (k * (2 * w) + x)
    ≡ remade Analysis wavelet (is_shifted wavelet) w (λ j. whole j (2 * first + k)) x)
    (columns : plane_of (2 * w) new
    ≡ on_columns (analysed wavelet (2 * pairs)) (2 * w) (plane_of (2 * w) old)) where
  abbrev parted_rows : Cells
  parted_rows = on_rows (remade Analysis wavelet (is_shifted wavelet) w) (2 * h) whole

  rows_in_part : (x k : ℕ) → x < 2 * w → k < 2 * pairs
      → plane_of (2 * w) old x k ≡ parted_rows x (2 * first + k)
  rows_in_part x k a lt =
      plane_in (2 * w) old x k a ∙ rows x k a lt
      ∙ sym (row_in (remade Analysis wavelet (is_shifted wavelet) w) (2 * h) whole x (2 * first + k)
      (omega (arith, holds.inside, lt)))

  pub band_parted : (x k : ℕ) → x < 2 * w → 2 * from ≤ 2 * first + k → 2 * first + k < 2 * to
      → line_of new (k * (2 * w) + x) ≡ parted_in_turn wavelet w h whole x (2 * first + k)
  unfolding parted_in_turn
  band_parted x k a begin end =
      sym (plane_in (2 * w) new x k a) ∙ ap (λ (p : Cells). p x k) columns
      ∙ column_in (analysed wavelet (2 * pairs)) (2 * w) (plane_of (2 * w) old) x k a
      ∙ analysis_in_part wavelet h from to first pairs holds (λ j. plane_of (2 * w) old x j)
      (λ j. parted_rows x j) (λ j lt. rows_in_part x j a lt) k (omega (arith, begin)) (omega (arith, end))
      ∙ sym (column_in (analysed wavelet (2 * h)) (2 * w) parted_rows x (2 * first + k) a)

-- rows that are copied from one list to another, at once
rows_copied : (columns u v count : ℕ) (window out : List ℤ)
    → ((i : ℕ) → i < count * columns → line_of out (v * columns + i) ≡ line_of window (u * columns + i))
    → (x t : ℕ) → x < columns → t < count
    → line_of out ((v + t) * columns + x) ≡ line_of window ((u + t) * columns + x)
rows_copied columns u v count window out copied x t a lt =
    let within = mul-add-lt t columns x count lt a in
    let there : (v + t) * columns + x ≡ v * columns + (t * columns + x) = omega arith in
    let here : u * columns + (t * columns + x) ≡ (u + t) * columns + x = omega arith in
    ap (line_of out) there ∙ copied (t * columns + x) (omega (arith, within)) ∙ ap (line_of window) here

-- rows of a band that are left in a list, which begins so many pairs above
module _ (columns from to first above below end : ℕ) (window out : List ℤ) (value : Cells) (begins : first ≤ from)
    (order : above ≤ from) (last : end ≡ min to below)
    (copied : (i : ℕ) → i < 2 * (end - from) * columns
    → line_of out (2 * (from - above) * columns + i) ≡ line_of window (2 * (from - first) * columns + i))
    (made : (x k : ℕ) → x < columns → 2 * from ≤ 2 * first + k → 2 * first + k < 2 * to
    → line_of window (k * columns + x) ≡ value x (2 * first + k)) where
  pub band_left : (x y : ℕ) → x < columns → 2 * (from - above) ≤ y → y < 2 * (to - above) → y < 2 * (below - above)
      → line_of out (y * columns + x) ≡ value x (2 * above + y)
  band_left x y a begin over lt =
      let t = y - 2 * (from - above) in
      let place : y ≡ 2 * (from - above) + t = omega (arith, begin) in
      let row : 2 * first + (2 * (from - first) + t) ≡ 2 * above + y = omega (arith, begins, order, begin) in
      ap (λ n. line_of out (n * columns + x)) place
      ∙ rows_copied columns (2 * (from - first)) (2 * (from - above)) (2 * (end - from)) window out copied
      x t a (omega (arith, last, order, begin, over, lt))
      ∙ made x (2 * (from - first) + t) a (omega (arith, begins)) (omega (arith, begins, order, begin, over))
      ∙ ap (value x) row

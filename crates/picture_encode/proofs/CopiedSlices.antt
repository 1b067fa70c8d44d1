-- The numbers of a slice that are copied out of cells whose rows are taken in turn.
use Rattle.std.proofs.Common.{◌≡◌, ℕ, zero, suc, ◌+◌, ◌-◌, ◌*◌, ◌/◌, ◌%◌, ◌^◌, ◌<◌, ◌≤◌, ◌⊎◌, inl, inr, List, length, map, ℤ, pos, arith, ap, sym, subst, ◌∙◌}
use Rattle.std.specs.List.{range_with_len}
use Rattle.std.proofs.lemmas.Bool.{cases_lt}
use Rattle.std.proofs.lemmas.List.{ext_get_or}
use Rattle.std.proofs.lemmas.List.FromFn.{length-map-range_with_len, get_or-map-range_with_len}
use Rattle.std.proofs.lemmas.Nat.{div-add-mod', div_below, mod_below}
use Rattle.std.proofs.Math.Nat.{add-mul, mul-le-mul_right}
use Rattle.link_model.specs.SendingPictures.{number_at_place, numbers_in_slice}
use Rattle.vc_types.specs.declared.rect.Rect.{Rect}
use Rattle.vc_types.specs.declared.video.Component.{Component}
use Rattle.vc_types.specs.Lifting.{line_of}
use Rattle.vc_types.specs.Quantisation.{subband_count}
use Rattle.vc_types.specs.Subbands.{area, place_in, subband_at, slice_rectangle, slice_coefficient_count, coefficient_place, padded_width, padded_height}
use Rattle.vc_types.specs.TransformParameters.{Parameters}
use Rattle.vc_types.specs.Transforms.{Cells}
use Rattle.vc_types.proofs.SliceRectangles.{coefficients_before, coefficients_before-more, coefficients_before-rest, coefficients_before-all}
use Rattle.vc_wave.specs.Planes.{plane_of}
use Rattle.vc_wave.proofs.PlaneSteps.{plane_in}
use Rattle.picture_encode.specs.Rows.{band_row, level_below}
use Rattle.vc_types.proofs.RectangleWalk.{walked}

-- ---- a rectangle, row by row

module _ (cells : List ℤ) (stride from first step : ℕ) (r : Rect) where
  -- the cell that a row of the rectangle has in one of its columns
  abbrev pub cell_there : ℕ → ℕ → ℤ
  cell_there row x = line_of cells ((first + row * step) * stride + r.x + x)

  next_row : (row : ℕ) → (row + 1) * r.width ≡ row * r.width + r.width
  next_row row = (let one : 1 * r.width ≡ r.width = omega arith in add-mul row 1 r.width ∙ ap (λ n. row * r.width + n) one)

  module _ (row : ℕ) (old new : List ℤ)
      (on : (x : ℕ) → x < r.width → line_of new (from + row * r.width + x) ≡ cell_there row x)
      (off : (i : ℕ) → (i < from + row * r.width) ⊎ (from + row * r.width + r.width ≤ i) → line_of new i ≡ line_of old i) where
    pub row_copied : ((t x : ℕ) → t < row → x < r.width → line_of old (from + t * r.width + x) ≡ cell_there t x) → (t x : ℕ) → t < row + 1 → x < r.width → line_of new (from + t * r.width + x) ≡ cell_there t x
    row_copied before t x h inside = elim (cases_lt t row) [
      | inl earlier ↦ (let rows : suc t * r.width ≤ row * r.width = mul-le-mul_right r.width earlier in off (from + t * r.width + x) (inl (omega (arith, rows, inside))) ∙ before t x earlier inside)
      | inr here ↦ (let same : row ≡ t = omega arith in subst (λ n. line_of new (from + n * r.width + x) ≡ cell_there n x) same (on x inside))
    ]

    pub rest_kept : (initial : List ℤ) → ((i : ℕ) → (i < from) ⊎ (from + row * r.width ≤ i) → line_of old i ≡ line_of initial i) → (i : ℕ) → (i < from) ⊎ (from + (row + 1) * r.width ≤ i) → line_of new i ≡ line_of initial i
    rest_kept initial before i (inl early) = off i (inl (omega arith)) ∙ before i (inl early)
    rest_kept initial before i (inr late) = (let next = next_row row in off i (inr (omega (arith, next, late))) ∙ before i (inr (omega (arith, next, late))))

  some_columns : (width height j : ℕ) → j < width * height → 0 < width
  some_columns zero height j h = absurd (omega arith)
  some_columns (suc width) height j h = omega arith

  -- the numbers of a rectangle, where its rows stand so
  pub rect_numbers : (turned : ℕ → ℕ → ℕ) (new : List ℤ) → r.x + r.width ≤ stride
      → ((x row : ℕ) → r.x ≤ x → x < r.x + r.width → row < r.height → turned x (r.y + row) ≡ first + row * step)
      → ((row x : ℕ) → row < r.height → x < r.width → line_of new (from + row * r.width + x) ≡ cell_there row x)
      → (j : ℕ) → j < area r → line_of new (from + j) ≡ number_at_place (λ x y. plane_of stride cells x (turned x y)) (place_in r j)
  rect_numbers turned new across stands copied j h =
      let x = j % r.width in
      let row = j / r.width in
      let some = some_columns r.width r.height j h in
      let inside : x < r.width = mod_below j r.width some in
      let below : row < r.height = div_below j r.width r.height some (omega (arith, h)) in
      let parts : row * r.width + x ≡ j = div-add-mod' j r.width in
      let at : from + j ≡ from + row * r.width + x = omega (arith, parts) in
      let place : (first + row * step) * stride + r.x + x ≡ turned (r.x + x) (r.y + row) * stride + (r.x + x) =
      ap (λ n. n * stride + r.x + x) (sym (stands (r.x + x) row (omega arith) (omega (arith, inside)) below)) ∙ omega arith in
      ap (line_of new) at ∙ copied row x below inside ∙ ap (line_of cells) place
      ∙ sym (plane_in stride cells (r.x + x) (turned (r.x + x) (r.y + row)) (omega (arith, inside, across)))

-- ---- a slice, rectangle by rectangle

module _ (p : Parameters) (c : Component) (slice : ℕ) (cells : Cells) where
  pub room_left : (b from total : ℕ) (r : Rect) → b < subband_count p.depth_ho p.depth → r ≡ slice_rectangle p c (subband_at p.depth_ho p.depth b) slice → from ≡ coefficients_before p c slice b → total ≡ slice_coefficient_count p c slice → from + area r ≤ total
  room_left b from total r inside is so_far all =
      let more = coefficients_before-more p c slice b inside in
      let rest = coefficients_before-rest p c slice (b + 1) in
      let same = ap area is in
      omega (arith, more, rest, same, so_far, all)

  pub next_before : (b from next : ℕ) (r : Rect) → b < subband_count p.depth_ho p.depth → r ≡ slice_rectangle p c (subband_at p.depth_ho p.depth b) slice → from ≡ coefficients_before p c slice b → next ≡ from + area r → next ≡ coefficients_before p c slice (b + 1)
  next_before b from next r inside is so_far sum =
      let more = coefficients_before-more p c slice b inside in
      let same = ap area is in
      omega (arith, more, same, so_far, sum)

  pub rect_copied : (b from next : ℕ) (r : Rect) (old new : List ℤ) → b < subband_count p.depth_ho p.depth → r ≡ slice_rectangle p c (subband_at p.depth_ho p.depth b) slice → from ≡ coefficients_before p c slice b → next ≡ from + area r
      → ((j : ℕ) → j < area r → line_of new (from + j) ≡ number_at_place cells (place_in r j)) → ((i : ℕ) → (i < from) ⊎ (from + area r ≤ i) → line_of new i ≡ line_of old i)
      → ((i : ℕ) → i < from → line_of old i ≡ number_at_place cells (coefficient_place p c slice i)) → (i : ℕ) → i < next → line_of new i ≡ number_at_place cells (coefficient_place p c slice i)
  rect_copied b from next r old new inside is so_far sum on off before i h = elim (cases_lt i from) [
    | inl earlier ↦ off i (inl earlier) ∙ before i earlier
    | inr here ↦ (
        let j = i - from in
        let place : i ≡ from + j = omega arith in
        let below : j < area r = omega (arith, sum) in
        let whole : j < area (slice_rectangle p c (subband_at p.depth_ho p.depth b) slice) = subst (λ (q : Rect). j < area q) is below in
        ap (line_of new) place ∙ on j below ∙ ap (λ (q : Rect). number_at_place cells (place_in q j)) is
        ∙ ap (number_at_place cells) (sym (walked p c slice b inside j whole))
        ∙ ap (λ n. number_at_place cells (coefficient_place p c slice n)) (ap (λ n. n + j) (sym so_far) ∙ sym place))
  ]

  pub all_copied : (b from : ℕ) (coeffs : List ℤ) → b ≡ subband_count p.depth_ho p.depth → from ≡ coefficients_before p c slice b → length coeffs ≡ slice_coefficient_count p c slice
      → ((i : ℕ) → i < from → line_of coeffs i ≡ number_at_place cells (coefficient_place p c slice i)) → coeffs ≡ numbers_in_slice p c cells slice
  unfolding numbers_in_slice
  all_copied b from coeffs last so_far whole copied =
      let total = slice_coefficient_count p c slice in
      let f : ℕ → ℤ = λ i. number_at_place cells (coefficient_place p c slice i) in
      let all = coefficients_before-all p c slice b last in
      ext_get_or (pos 0) coeffs (map f (range_with_len 0 total)) (whole ∙ sym (length-map-range_with_len f 0 total))
      (λ i lt. copied i (omega (arith, lt, whole, all, so_far)) ∙ sym (get_or-map-range_with_len f 0 total i i (pos 0) (omega (arith, lt, whole)) (omega arith)))

-- ---- a component's rows

pub rows_inside : (p : Parameters) (c : Component) (row stride len : ℕ) → row < padded_height p c → stride ≡ padded_width p c → len ≡ padded_height p c * padded_width p c → row * stride + stride ≤ len
rows_inside p c row stride len below wide whole =
    let rows : suc row * stride ≤ padded_height p c * stride = mul-le-mul_right stride below in
    let all : padded_height p c * stride ≡ len = ap (λ n. padded_height p c * n) wide ∙ sym whole in
    omega (arith, rows, all)

-- the rows of a component's nested subbands, by what is told of the nesting
pub rows_told : (levels h depth low b y first step row : ℕ) → levels ≡ depth → h ≡ low → first ≡ band_row levels (level_below b) h y → step ≡ 2 ^ (levels - level_below b)
    → first + row * step ≡ band_row depth (level_below b) low y + row * 2 ^ (depth - level_below b)
rows_told levels h depth low b y first step row deep low_is first_is step_is =
    ap (λ n. n + row * step) first_is
    ∙ ap (λ n. band_row levels (level_below b) h y + row * n) step_is
    ∙ ap (λ n. band_row n (level_below b) h y + row * 2 ^ (n - level_below b)) deep
    ∙ ap (λ n. band_row depth (level_below b) n y + row * 2 ^ (depth - level_below b)) low_is

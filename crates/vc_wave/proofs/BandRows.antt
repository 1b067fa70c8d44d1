-- Bands of a level: rows that are gathered, columns that are synthesised in part, and rows that are put out.
use Rattle.std.proofs.Common.{◌≡◌, ℕ, ◌+◌, ◌-◌, ◌*◌, ◌%◌, ◌<◌, ◌≤◌, ◌⊎◌, inl, inr, List, ℤ, min, arith, ap}
use Rattle.std.proofs.Common.{sym, subst, ◌∙◌, slice_index_or, false, unsigned_abs}
use Rattle.std.proofs.lemmas.Bool.{cases_lt, cases_eq}
use Rattle.std.proofs.lemmas.Nat.{mul-add-lt}
use Rattle.vc_types.specs.Lifting.{Line, line_of}
use Rattle.vc_types.specs.Transforms.{Cells, on_columns, inverse_level}
use Rattle.vc_types.specs.Wavelets.{is_shifted, synthesised}
use Rattle.vc_lift.specs.Reach.{HoldsPairs, reach_back, reach_ahead}
use Rattle.vc_lift.proofs.LineWindows.{synthesis_in_part}
use Rattle.vc_wave.specs.declared.pass.Direction.TheVariants.{Synthesis}
use Rattle.vc_wave.specs.Parts.{with_low}
use Rattle.vc_wave.specs.Planes.{plane_of}
use Rattle.vc_wave.specs.Remade.{half_place, halves_together, merged, remade}
use Rattle.vc_wave.proofs.LowCells.{with_low_in, with_low_out}
use Rattle.vc_wave.proofs.PlaneLines.{column_in, row_in, rearranged_in}
use Rattle.vc_wave.proofs.PlaneSteps.{plane_in}
use Rattle.vc_wave.proofs.Weaving.{remade_pass, remade_merged, inverse_level_remade}

-- ---- which pairs

module _ (wavelet h from most back ahead to first pairs : ℕ) (some : 0 < most) (inside : from < h)
    (is_back : back ≡ reach_back wavelet) (is_ahead : ahead ≡ reach_ahead wavelet) (last : to ≡ min h (from + most))
    (begin : first ≡ from - back) (rest : pairs ≡ min h (to + ahead) - first) where
  pub holds_pairs : HoldsPairs wavelet h from to first pairs
  holds_pairs = record {
    some = omega arith;
    inside = omega arith;
    begins = omega arith;
    ends = omega arith;
    left = elim (cases_lt from back) [ inl a ↦ inl (omega arith) | inr b ↦ inr (omega arith) ];
    right = elim (cases_lt (to + ahead) h) [ inl a ↦ inr (omega arith) | inr b ↦ inl (omega arith) ];
  }

-- ---- a pair of rows

module _ (w h pitch pair at : ℕ) (low nested old one two three : List ℤ) (inside : pair < h) (wide : 2 * w ≤ pitch)
    (first : (x : ℕ) → x < w → line_of one (at + x) ≡ line_of low (pair * w + x))
    (first_off : (i : ℕ) → (i < at) ⊎ (at + w ≤ i) → line_of one i ≡ line_of old i)
    (second : (x : ℕ) → x < w → line_of two (at + w + x) ≡ line_of nested (pair * pitch + w + x))
    (second_off : (i : ℕ) → (i < at + w) ⊎ (at + w + w ≤ i) → line_of two i ≡ line_of one i)
    (third : (x : ℕ) → x < 2 * w → line_of three (at + 2 * w + x) ≡ line_of nested ((h + pair) * pitch + x))
    (third_off : (i : ℕ) → (i < at + 2 * w) ⊎ (at + 2 * w + 2 * w ≤ i) → line_of three i ≡ line_of two i) where
  low_at : (x : ℕ) → x < 2 * w → (x < w) ⊎ (w ≤ x) → line_of three (at + x) ≡ with_low w h pitch low nested x pair
  low_at x lt (inl a) =
      third_off (at + x) (inl (omega arith)) ∙ second_off (at + x) (inl (omega arith)) ∙ first x a
      ∙ sym (with_low_in w h pitch low nested x pair a inside ∙ plane_in w low x pair a)
  low_at x lt (inr b) =
      let place : at + x ≡ at + w + (x - w) = omega arith in
      let there : pair * pitch + w + (x - w) ≡ pair * pitch + x = omega arith in
      third_off (at + x) (inl (omega arith)) ∙ ap (line_of two) place ∙ second (x - w) (omega arith)
      ∙ ap (line_of nested) there
      ∙ sym (with_low_out w h pitch low nested x pair (inl b) ∙ plane_in pitch nested x pair (omega arith))

  pub pair_low : (x : ℕ) → x < 2 * w → line_of three (at + x) ≡ with_low w h pitch low nested x pair
  pair_low x lt = low_at x lt (cases_lt x w)

  pub pair_high : (x : ℕ) → x < 2 * w
      → line_of three (at + 2 * w + x) ≡ with_low w h pitch low nested x (h + pair)
  pair_high x lt =
      third x lt
      ∙ sym (with_low_out w h pitch low nested x (h + pair) (inr (omega arith))
      ∙ plane_in pitch nested x (h + pair) (omega arith))

  pub pair_off : (i : ℕ) → (i < at) ⊎ (at + 4 * w ≤ i) → line_of three i ≡ line_of old i
  pair_off i (inl a) = third_off i (inl (omega arith)) ∙ second_off i (inl (omega arith)) ∙ first_off i (inl a)
  pair_off i (inr a) =
      third_off i (inr (omega arith)) ∙ second_off i (inr (omega arith)) ∙ first_off i (inr (omega arith))

-- a bound on its cells
module _ (w h pitch pair most : ℕ) (low nested : List ℤ) (inside : pair < h) (wide : 2 * w ≤ pitch) where
  module _ (first : (x : ℕ) → x < w → unsigned_abs (line_of low (pair * w + x)) ≤ most)
      (second : (x : ℕ) → x < w → unsigned_abs (line_of nested (pair * pitch + w + x)) ≤ most) where
    small_at : (x : ℕ) → x < 2 * w → (x < w) ⊎ (w ≤ x) → unsigned_abs (with_low w h pitch low nested x pair) ≤ most
    small_at x lt (inl a) =
        rw (with_low_in w h pitch low nested x pair a inside ∙ plane_in w low x pair a) (first x a)
    small_at x lt (inr b) =
        let there : pair * pitch + x ≡ pair * pitch + w + (x - w) = omega arith in
        rw (with_low_out w h pitch low nested x pair (inl b) ∙ plane_in pitch nested x pair (omega arith)
        ∙ ap (line_of nested) there) (second (x - w) (omega arith))

    pub low_small : (x : ℕ) → x < 2 * w → unsigned_abs (with_low w h pitch low nested x pair) ≤ most
    low_small x lt = small_at x lt (cases_lt x w)

  pub high_small : ((x : ℕ) → x < 2 * w → unsigned_abs (line_of nested ((h + pair) * pitch + x)) ≤ most)
      → (x : ℕ) → x < 2 * w → unsigned_abs (with_low w h pitch low nested x (h + pair)) ≤ most
  high_small third x lt =
      rw (with_low_out w h pitch low nested x (h + pair) (inr (omega arith))
      ∙ plane_in pitch nested x (h + pair) (omega arith)) (third x lt)

half_even : (half j : ℕ) → half_place half (2 * j) ≡ j
half_even half j = (let even : 2 * j % 2 ≡ 0 = omega arith in rw even (omega arith))

half_odd : (half j : ℕ) → half_place half (2 * j + 1) ≡ half + j
half_odd half j = (let odd : (2 * j + 1) % 2 ≡ 1 = omega arith in rw odd (omega arith))

-- one pair more
module _ (w h n first : ℕ) (cells : Cells) (old new : List ℤ)
    (low : (x : ℕ) → x < 2 * w → line_of new (2 * n * (2 * w) + x) ≡ cells x (first + n))
    (high : (x : ℕ) → x < 2 * w → line_of new (2 * n * (2 * w) + 2 * w + x) ≡ cells x (h + (first + n)))
    (off : (i : ℕ) → (i < 2 * n * (2 * w)) ⊎ (2 * n * (2 * w) + 4 * w ≤ i) → line_of new i ≡ line_of old i)
    (before : (x k : ℕ) → x < 2 * w → k < 2 * n
    → line_of old (k * (2 * w) + x) ≡ cells x (half_place h (2 * first + k))) where
  pub pair_more : (x k : ℕ) → x < 2 * w → k < 2 * (n + 1)
      → line_of new (k * (2 * w) + x) ≡ cells x (half_place h (2 * first + k))
  pair_more x k a lt = elim (cases_eq k (2 * n)) [
    | inl e ↦ (
        let place : 2 * (first + n) ≡ 2 * first + k = omega arith in
        ap (λ j. line_of new (j * (2 * w) + x)) e ∙ low x a
        ∙ ap (cells x) (sym (half_even h (first + n)) ∙ ap (half_place h) place))
    | inr ne ↦ elim (cases_eq k (2 * n + 1)) [
      | inl e ↦ (
          let place : 2 * (first + n) + 1 ≡ 2 * first + k = omega arith in
          let there : (2 * n + 1) * (2 * w) + x ≡ 2 * n * (2 * w) + 2 * w + x = omega arith in
          ap (λ j. line_of new (j * (2 * w) + x)) e ∙ ap (line_of new) there ∙ high x a
          ∙ ap (cells x) (sym (half_odd h (first + n)) ∙ ap (half_place h) place))
      | inr other ↦ (
          let earlier : k < 2 * n = omega arith in
          let above = mul-add-lt k (2 * w) x (2 * n) earlier a in
          off (k * (2 * w) + x) (inl (omega (arith, above))) ∙ before x k a earlier)
    ]
  ]

-- and one on all of them
module _ (w h n first most : ℕ) (cells : Cells)
    (low : (x : ℕ) → x < 2 * w → unsigned_abs (cells x (first + n)) ≤ most)
    (high : (x : ℕ) → x < 2 * w → unsigned_abs (cells x (h + (first + n))) ≤ most)
    (before : (x k : ℕ) → x < 2 * w → k < 2 * n → unsigned_abs (cells x (half_place h (2 * first + k))) ≤ most) where
  pub pair_small : (x k : ℕ) → x < 2 * w → k < 2 * (n + 1)
      → unsigned_abs (cells x (half_place h (2 * first + k))) ≤ most
  pair_small x k a lt = elim (cases_eq k (2 * n)) [
    | inl e ↦ (
        let place : 2 * (first + n) ≡ 2 * first + k = omega arith in
        subst (λ j. unsigned_abs (cells x j) ≤ most) (sym (half_even h (first + n)) ∙ ap (half_place h) place) (low x a))
    | inr ne ↦ elim (cases_eq k (2 * n + 1)) [
      | inl e ↦ (
          let place : 2 * (first + n) + 1 ≡ 2 * first + k = omega arith in
          subst (λ j. unsigned_abs (cells x j) ≤ most) (sym (half_odd h (first + n)) ∙ ap (half_place h) place)
          (high x a))
      | inr other ↦ before x k a (omega arith)
    ]
  ]

-- ---- columns

module _ (wavelet h from to first pairs w : ℕ) (cells : Cells) (old mid : List ℤ)
    (holds : HoldsPairs wavelet h from to first pairs)
    (gathered : (x k : ℕ) → x < 2 * w → k < 2 * pairs
    → plane_of (2 * w) old x k ≡ cells x (half_place h (2 * first + k)))
    (columns : plane_of (2 * w) mid
    ≡ on_columns (synthesised wavelet (2 * pairs)) (2 * w) (plane_of (2 * w) old)) where
  pub columns_in_part : (x k : ℕ) → x < 2 * w → 2 * from ≤ 2 * first + k → 2 * first + k < 2 * to
      → plane_of (2 * w) mid x k ≡ merged wavelet h (λ j. cells x j) (2 * first + k)
  columns_in_part x k a begin end =
      ap (λ (p : Cells). p x k) columns
      ∙ column_in (synthesised wavelet (2 * pairs)) (2 * w) (plane_of (2 * w) old) x k a
      ∙ synthesis_in_part wavelet h from to first pairs holds (λ j. plane_of (2 * w) old x j)
      (halves_together h (λ j. cells x j))
      (λ j lt. gathered x j a lt
      ∙ sym (rearranged_in (2 * h) (half_place h) (λ i. cells x i) (2 * first + j)
      (omega (arith, holds.inside, lt))))
      k (omega (arith, begin)) (omega (arith, end))

-- ---- rows

pub level_row : (vertical horizontal w h : ℕ) (cells : Cells) (row : Line) (y : ℕ) → y < 2 * h
    → ((k : ℕ) → k < 2 * w → row k ≡ merged vertical h (λ j. cells k j) y) → (x : ℕ) → x < 2 * w
    → remade Synthesis horizontal (is_shifted horizontal) w row x
    ≡ inverse_level vertical horizontal w h cells x y
level_row vertical horizontal w h cells row y lt is x a =
    let down = remade Synthesis vertical false h in
    let made = on_columns down (2 * w) cells in
    (remade_pass Synthesis horizontal (is_shifted horizontal) w).reads row (λ k. made k y)
    (λ k b. is k b ∙ ap (λ (f : Line → Line). f (λ j. cells k j) y) (remade_merged vertical h)
    ∙ sym (column_in down (2 * w) cells k y b)) x a
    ∙ sym (row_in (remade Synthesis horizontal (is_shifted horizontal) w) (2 * h) made x y lt)
    ∙ sym (ap (λ (p : Cells). p x y) (inverse_level_remade vertical horizontal w h cells))

module _ (vertical horizontal w h from to first pairs : ℕ) (cells : Cells) (mid : List ℤ)
    (holds : HoldsPairs vertical h from to first pairs)
    (made : (x k : ℕ) → x < 2 * w → 2 * from ≤ 2 * first + k → 2 * first + k < 2 * to
    → plane_of (2 * w) mid x k ≡ merged vertical h (λ j. cells x j) (2 * first + k)) where
  pub band_row : (x y : ℕ) → x < 2 * w → 2 * from ≤ y → y < 2 * to
      → remade Synthesis horizontal (is_shifted horizontal) w
      (λ k. plane_of (2 * w) mid k (2 * (from - first) + (y - 2 * from))) x
      ≡ inverse_level vertical horizontal w h cells x y
  band_row x y a begin end =
      let row : 2 * first + (2 * (from - first) + (y - 2 * from)) ≡ y = omega (arith, holds.begins, begin) in
      level_row vertical horizontal w h cells
      (λ k. plane_of (2 * w) mid k (2 * (from - first) + (y - 2 * from))) y
      (omega (arith, holds.ends, holds.inside, end))
      (λ k b. made k (2 * (from - first) + (y - 2 * from)) b (omega (arith, row, begin)) (omega (arith, row, end))
      ∙ ap (merged vertical h (λ j. cells k j)) row) x a

  -- in the list to which so many of them are put, below so many pairs
  pub band_put : {A : Type 0} (none : A) (g : ℤ → A) (columns count above : ℕ) (new : List A) → columns ≤ 2 * w
      → above ≤ from
      → ((x t : ℕ) → x < columns → t < count
      → slice_index_or new ((2 * (from - above) + t) * columns + x) none
      ≡ g (remade Synthesis horizontal (is_shifted horizontal) w
      (λ k. plane_of (2 * w) mid k (2 * (from - first) + t)) x))
      → (x y : ℕ) → x < columns → 2 * (from - above) ≤ y → y < 2 * (to - above)
      → y < 2 * (from - above) + count
      → slice_index_or new (y * columns + x) none
      ≡ g (inverse_level vertical horizontal w h cells x (2 * above + y))
  band_put none g columns count above new narrow order on x y a begin end lt =
      let place : y ≡ 2 * (from - above) + (y - 2 * (from - above)) = omega (arith, begin) in
      let row : y - 2 * (from - above) ≡ 2 * above + y - 2 * from = omega (arith, begin, order) in
      ap (λ j. slice_index_or new (j * columns + x) none) place
      ∙ on x (y - 2 * (from - above)) a (omega (arith, begin, lt))
      ∙ ap (λ t. g (remade Synthesis horizontal (is_shifted horizontal) w
      (λ k. plane_of (2 * w) mid k (2 * (from - first) + t)) x)) row
      ∙ ap g (band_row x (2 * above + y) (omega arith) (omega (arith, begin, order)) (omega (arith, end, order)))

  -- and in the list of the next level's low subband
  pub band_kept : (new : List ℤ)
      → ((x t : ℕ) → x < 2 * w → t < 2 * (to - from)
      → line_of new ((2 * from + t) * (2 * w) + x)
      ≡ remade Synthesis horizontal (is_shifted horizontal) w
      (λ k. plane_of (2 * w) mid k (2 * (from - first) + t)) x)
      → (x y : ℕ) → x < 2 * w → 2 * from ≤ y → y < 2 * to
      → line_of new (y * (2 * w) + x) ≡ inverse_level vertical horizontal w h cells x y
  band_kept new on x y a begin end =
      let place : y ≡ 2 * from + (y - 2 * from) = omega (arith, begin) in
      ap (λ j. line_of new (j * (2 * w) + x)) place ∙ on x (y - 2 * from) a (omega (arith, begin, end))
      ∙ band_row x y a begin end

-- ---- one band more of a list: what holds of each of its places

pub bands_more : {A : Type 0} (none : A) (columns limit from to : ℕ) (P : ℕ → ℕ → A → Type 0) (old new : List A)
    → ((i : ℕ) → i < 2 * from * columns → slice_index_or new i none ≡ slice_index_or old i none)
    → ((x y : ℕ) → x < columns → y < 2 * from → y < limit → P x y (slice_index_or old (y * columns + x) none))
    → ((x y : ℕ) → x < columns → 2 * from ≤ y → y < 2 * to → y < limit
    → P x y (slice_index_or new (y * columns + x) none))
    → (x y : ℕ) → x < columns → y < 2 * to → y < limit → P x y (slice_index_or new (y * columns + x) none)
bands_more none columns limit from to P old new before so_far here x y a lt under = elim (cases_lt y (2 * from)) [
  | inl earlier ↦ (
      let place = mul-add-lt y columns x (2 * from) earlier a in
      subst (P x y) (sym (before (y * columns + x) (omega (arith, place)))) (so_far x y a earlier under))
  | inr now ↦ here x y a now lt under
]

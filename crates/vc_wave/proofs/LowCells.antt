-- Nested subbands whose low ones stand in a list of their own: their cells, one level more, and all of them.
use Rattle.std.proofs.Common.{◌≡◌, ◌≢◌, ℕ, ◌+◌, ◌*◌, ◌%◌, ◌^◌, ◌<◌, ◌≤◌, ◌⊎◌, inl, inr, List, ℤ, pos}
use Rattle.std.proofs.Common.{length, ◌++◌, unsigned_abs, arith, ap, sym, ◌∙◌}
use mathlib.Core.Path.{fun_ext}
use Rattle.std.proofs.lemmas.Bool.{cases_lt, cases_eq}
use Rattle.std.proofs.lemmas.Bool.Decides.{nat_tests}
use Rattle.std.proofs.lemmas.List.{get_or_past, get_or_append_left}
use Rattle.std.proofs.lemmas.Nat.{mul-add-lt}
use Rattle.std.proofs.Math.Nat.{mul-le-mul_right}
use Rattle.vc_types.specs.Lifting.{line_of}
use Rattle.vc_types.specs.Transforms.{Cells, inverse_level, inverse_levels, levels_across}
use Rattle.vc_wave.specs.NarrowBounds.{AreWithin}
use Rattle.vc_wave.specs.Parts.{with_low, held}
use Rattle.vc_wave.specs.Planes.{plane_of}
use Rattle.vc_wave.proofs.Levels.{twice_side, no_levels, next_level}
use Rattle.vc_wave.proofs.PlaneSteps.{plane_in, plane_out, cells_small}
use Rattle.vc_wave.proofs.TransformLocality.{inverse_level_stays, levels_across_stay}

-- ---- a cell

module _ (w h pitch : ℕ) (low nested : List ℤ) (x y : ℕ) where
  pub with_low_in : x < w → y < h → with_low w h pitch low nested x y ≡ plane_of w low x y
  unfolding with_low
  with_low_in a b = grind (arith, nat_tests)

  pub with_low_out : (w ≤ x) ⊎ (h ≤ y) → with_low w h pitch low nested x y ≡ plane_of pitch nested x y
  unfolding with_low
  with_low_out (inl a) = grind (arith, nat_tests)
  with_low_out (inr a) = grind (arith, nat_tests)

-- ---- two lists in turn

module _ (n : ℕ) (first second : List ℤ) where
  pub held_even : n % 2 ≡ 0 → held n first second ≡ first
  unfolding held
  held_even e = grind (arith, nat_tests)

  pub held_odd : n % 2 ≢ 0 → held n first second ≡ second
  unfolding held
  held_odd e = grind (arith, nat_tests)

  pub held_long : (len : ℕ) → len ≤ length first → len ≤ length second → len ≤ length (held n first second)
  held_long len a b = elim (cases_eq (n % 2) 0) [
    | inl e ↦ rw (held_even e) a
    | inr ne ↦ rw (held_odd ne) b
  ]

-- ---- a level whose samples are left in another list

module _ (w h pitch : ℕ) (low nested out : List ℤ) where
  abbrev before : Cells
  before = with_low w h pitch low nested

  abbrev after : Cells
  after = with_low (2 * w) (2 * h) pitch out nested

  -- outside the level nothing changes
  beside : (x y : ℕ) → (2 * w ≤ x) ⊎ (2 * h ≤ y) → after x y ≡ before x y
  beside x y (inl a) = with_low_out (2 * w) (2 * h) pitch out nested x y (inl a)
      ∙ sym (with_low_out w h pitch low nested x y (inl (omega arith)))
  beside x y (inr a) = with_low_out (2 * w) (2 * h) pitch out nested x y (inr a)
      ∙ sym (with_low_out w h pitch low nested x y (inr (omega arith)))

  inside : (x y : ℕ) → x < 2 * w → y < 2 * h → after x y ≡ line_of out (y * (2 * w) + x)
  inside x y a b = with_low_in (2 * w) (2 * h) pitch out nested x y a b ∙ plane_in (2 * w) out x y a

  module _ (vertical horizontal : ℕ)
      (made : (x y : ℕ) → x < 2 * w → y < 2 * h
      → line_of out (y * (2 * w) + x) ≡ inverse_level vertical horizontal w h before x y) where
    unchanged : (x y : ℕ) → (2 * w ≤ x) ⊎ (2 * h ≤ y) → after x y ≡ inverse_level vertical horizontal w h before x y
    unchanged x y out_of =
        beside x y out_of
        ∙ sym ((inverse_level_stays (2 * w) (2 * h) w h (omega arith) (omega arith) vertical horizontal).past
        before x y out_of)

    made_at : (x y : ℕ) → (x < 2 * w) ⊎ (2 * w ≤ x) → (y < 2 * h) ⊎ (2 * h ≤ y)
        → after x y ≡ inverse_level vertical horizontal w h before x y
    made_at x y (inl a) (inl b) = inside x y a b ∙ made x y a b
    made_at x y (inr a) b = unchanged x y (inl a)
    made_at x y (inl a) (inr b) = unchanged x y (inr b)

    pub level_made : after ≡ inverse_level vertical horizontal w h before
    level_made = fun_ext (λ x. fun_ext (λ y. made_at x y (cases_lt x (2 * w)) (cases_lt y (2 * h))))

-- ---- levels in turn, from the lowest up

module _ (vertical horizontal w h pitch : ℕ) (first : Cells) (nested : List ℤ) where
  -- the samples below level number n stand in this list
  abbrev pub AreBelowLevel : ℕ → List ℤ → Type 0
  AreBelowLevel n low =
      with_low (w * 2 ^ n) (h * 2 ^ n) pitch low nested ≡ inverse_levels vertical horizontal n w h first

  pub first_below : (low : List ℤ) → with_low w h pitch low nested ≡ first → AreBelowLevel 0 low
  first_below low is =
      let across : w * 2 ^ 0 ≡ w = omega arith in
      let down : h * 2 ^ 0 ≡ h = omega arith in
      ap (λ n. with_low n (h * 2 ^ 0) pitch low nested) across
      ∙ ap (λ n. with_low w n pitch low nested) down ∙ is ∙ no_levels vertical horizontal w h first

  pub next_below : (n : ℕ) (old new : List ℤ) (columns rows : ℕ) → columns ≡ w * 2 ^ n → rows ≡ h * 2 ^ n
      → AreBelowLevel n old
      → with_low (2 * columns) (2 * rows) pitch new nested
      ≡ inverse_level vertical horizontal columns rows (with_low columns rows pitch old nested)
      → AreBelowLevel (n + 1) new
  next_below n old new columns rows across down so_far made =
      rw (twice_side w n, twice_side h n)
      (next_level vertical horizontal n w h first (with_low (w * 2 ^ n) (h * 2 ^ n) pitch old nested)
      (with_low (2 * (w * 2 ^ n)) (2 * (h * 2 ^ n)) pitch new nested) so_far (rw (across, down) at made))

-- ---- the lowest subbands

-- rows that fill a list bound all its cells
module _ (columns rows most : ℕ) (cells : List ℤ) (some : 0 < columns) (whole : length cells ≡ rows * columns)
    (small : (x y : ℕ) → x < columns → y < rows → unsigned_abs (plane_of columns cells x y) ≤ most) where
  rows_at : (x y : ℕ) → (x < columns) ⊎ (columns ≤ x) → (y < rows) ⊎ (rows ≤ y)
      → unsigned_abs (plane_of columns cells x y) ≤ most
  rows_at x y (inl a) (inl b) = small x y a b
  rows_at x y (inr a) b = rw (plane_out columns cells x y a) (omega arith)
  rows_at x y (inl a) (inr b) =
      let past = mul-le-mul_right columns b in
      rw (plane_in columns cells x y a ∙ get_or_past cells (y * columns + x) (pos 0) (omega (arith, past, whole)))
      (omega arith)

  pub all_within : AreWithin most cells
  all_within = cells_small columns most cells some (λ x y. rows_at x y (cases_lt x columns) (cases_lt y rows))

-- one row more is copied
module _ (columns stride y : ℕ) (nested old new : List ℤ)
    (on : (x : ℕ) → x < columns → line_of new (y * columns + x) ≡ line_of nested (y * stride + x))
    (off : (i : ℕ) → (i < y * columns) ⊎ (y * columns + columns ≤ i) → line_of new i ≡ line_of old i) where
  pub copied_more : ((x t : ℕ) → x < columns → t < y
      → line_of old (t * columns + x) ≡ line_of nested (t * stride + x))
      → (x t : ℕ) → x < columns → t < y + 1 → line_of new (t * columns + x) ≡ line_of nested (t * stride + x)
  copied_more before x t a lt = elim (cases_eq t y) [
    | inl e ↦ rw e (on x a)
    | inr ne ↦ (
        let earlier : t < y = omega arith in
        let above = mul-add-lt t columns x y earlier a in
        off (t * columns + x) (inl (omega (arith, above))) ∙ before x t a earlier)
  ]

-- cells that were written over the first of a list
pub front_put : (new rest : List ℤ) (i : ℕ) → i < length new → line_of (new ++ rest) i ≡ line_of new i
front_put new rest i h = get_or_append_left new rest (pos 0) i h

-- levels across alone, of the copied cells
pub corner_across : (wavelet e w h stride width : ℕ) (cells mid nested : List ℤ) → width ≡ w * 2 ^ e
    → ((x y : ℕ) → x < width → y < h → plane_of width mid x y ≡ plane_of stride nested x y)
    → plane_of width cells ≡ levels_across wavelet e w h (plane_of width mid) → (x y : ℕ) → x < width → y < h
    → plane_of width cells x y ≡ levels_across wavelet e w h (plane_of stride nested) x y
corner_across wavelet e w h stride width cells mid nested is copied made x y a b =
    ap (λ (p : Cells). p x y) made
    ∙ (levels_across_stay w h width h wavelet e (omega arith) (omega arith)).agrees
    (plane_of width mid) (plane_of stride nested) copied x y a b

module _ (h stride width : ℕ) (low cells nested : List ℤ)
    (front : (i : ℕ) → i < h * width → line_of low i ≡ line_of cells i) where
  corner_in : (x y : ℕ) → x < width → y < h → with_low width h stride low nested x y ≡ plane_of width cells x y
  corner_in x y a b =
      let within = mul-add-lt y width x h b a in
      with_low_in width h stride low nested x y a b ∙ plane_in width low x y a
      ∙ front (y * width + x) (omega (arith, within)) ∙ sym (plane_in width cells x y a)

  module _ (wavelet e w : ℕ) (is : width ≡ w * 2 ^ e)
      (made : (x y : ℕ) → x < width → y < h
      → plane_of width cells x y ≡ levels_across wavelet e w h (plane_of stride nested) x y) where
    corner_past : (x y : ℕ) → (width ≤ x) ⊎ (h ≤ y)
        → with_low width h stride low nested x y ≡ levels_across wavelet e w h (plane_of stride nested) x y
    corner_past x y out =
        with_low_out width h stride low nested x y out
        ∙ sym ((levels_across_stay w h width h wavelet e (omega arith) (omega arith)).past
        (plane_of stride nested) x y out)

    corner_at : (x y : ℕ) → (x < width) ⊎ (width ≤ x) → (y < h) ⊎ (h ≤ y)
        → with_low width h stride low nested x y ≡ levels_across wavelet e w h (plane_of stride nested) x y
    corner_at x y (inl a) (inl b) = corner_in x y a b ∙ made x y a b
    corner_at x y (inr a) b = corner_past x y (inl a)
    corner_at x y (inl a) (inr b) = corner_past x y (inr b)

    pub corner_made : with_low width h stride low nested ≡ levels_across wavelet e w h (plane_of stride nested)
    corner_made = fun_ext (λ x. fun_ext (λ y. corner_at x y (cases_lt x width) (cases_lt y h)))

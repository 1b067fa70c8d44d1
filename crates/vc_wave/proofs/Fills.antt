-- Rows of cells that are filled with a plane's samples, and what the forward transform makes of them.
use Rattle.std.proofs.Common.{◌≡◌, ℕ, suc, ◌+◌, ◌-◌, ◌*◌, ◌/◌, ◌%◌, ◌^◌, ◌<◌, ◌≤◌, List, length, set, ℤ, pos}
use Rattle.std.proofs.Common.{◌-ℤ◌, unsigned_abs, All, IsTrue, arith, ap, sym, ◌∙◌, ◌⊎◌, inl, inr}
use Rattle.std.proofs.Common.{slice_index_or, min}
use mathlib.Core.Path.{fun_ext}
use Rattle.std.proofs.lemmas.Bool.{cases_lt, cases_eq}
use Rattle.std.specs.Prelude.{slice_range}
use Rattle.std.proofs.lemmas.List.{get_or-set_same, get_or-set_other, get_or_past, get_or-take, get_or-drop}
use Rattle.std.proofs.lemmas.List.{length-take-le, length-drop}
use Rattle.std.proofs.lemmas.List.Elements.{All-get_or}
use Rattle.std.proofs.lemmas.Nat.{same_from_place}
use Rattle.std.proofs.lemmas.Int.{ints}
use Rattle.std.proofs.Math.Nat.{mul-le-mul_right, pow-suc}
use Rattle.std.proofs.Math.Pow.{pow_mono, pow_pos}
use Rattle.vc_types.specs.declared.video.Component.{Component}
use Rattle.vc_types.specs.Lifting.{Line, line_of}
use Rattle.vc_types.specs.Rasters.{Raster, sample_at}
use Rattle.vc_types.specs.Subbands.{plane_width, plane_height, plane_depth, padded_width, padded_height}
use Rattle.vc_types.specs.TransformParameters.{Parameters, is_symmetric}
use Rattle.vc_types.specs.Transforms.{forward_levels, forward_transform, lowest_width, lowest_height}
use Rattle.vc_types.specs.Transforms.{padded_plane}
use Rattle.vc_wave.specs.Planes.{AreBelow, plane_of}
use Rattle.vc_wave.proofs.TransformLocality.{forward_levels_agrees}
use Rattle.vc_wave.specs.Samples.{centred_row, padded_sample}
use Rattle.vc_wave.proofs.PlaneSteps.{plane_in, plane_small}
use Rattle.vc_wave.proofs.TransformLaws.{no_levels, same_side}

-- ---- one sample more

module _ (columns x y : ℕ) (cells : List ℤ) (v : ℤ) (value : ℕ → ℕ → ℤ) (inside : x < columns)
    (within : y * columns + x < length cells) (is : v ≡ value x y) where
  pub above_kept : ((u t : ℕ) → u < columns → t < y → line_of cells (t * columns + u) ≡ value u t) → (u t : ℕ)
      → u < columns → t < y → line_of (set cells (y * columns + x) v) (t * columns + u) ≡ value u t
  above_kept above u t h lt =
      get_or-set_other cells (y * columns + x) (t * columns + u) v (pos 0)
      (λ e. (let same = same_from_place t u y x columns h inside e in omega (arith, same))) ∙ above u t h lt

  pub row_more : ((u : ℕ) → u < x → line_of cells (y * columns + u) ≡ value u y) → (u : ℕ) → u < x + 1
      → line_of (set cells (y * columns + x) v) (y * columns + u) ≡ value u y
  row_more row u h = grind (arith, get_or-set_same, within, get_or-set_other)

pub rows_filled : (columns y : ℕ) (cells : List ℤ) (value : ℕ → ℕ → ℤ)
    → ((u t : ℕ) → u < columns → t < y → line_of cells (t * columns + u) ≡ value u t)
    → ((u : ℕ) → u < columns → line_of cells (y * columns + u) ≡ value u y) → (u t : ℕ) → u < columns
    → t < y + 1 → line_of cells (t * columns + u) ≡ value u t
rows_filled columns y cells value above row u t h lt =
    elim (cases_eq t y) [ inl e ↦ rw e (row u h) | inr ne ↦ above u t h (omega arith) ]

-- the sample that is read
pub sample_read : (p : Raster) (samples : List ℕ) (w h x y row column : ℕ) → samples ≡ p.samples → w ≡ p.width
    → h ≡ p.height → row ≡ min y (h - 1) → column ≡ min x (w - 1)
    → slice_index_or samples (row * w + column) 0 ≡ sample_at p (min x (p.width - 1)) (min y (p.height - 1))
unfolding sample_at
sample_read p samples w h x y row column list wide high down across = grind arith

-- the samples of a row, the last of which is met again past it
pub row_read : (p : Raster) (samples : List ℕ) (w h x y row : ℕ) → samples ≡ p.samples → w ≡ p.width
    → h ≡ p.height → row ≡ min y (h - 1) → 0 < w → row * w + w ≤ length samples
    → slice_index_or (slice_range samples (row * w) (row * w + w))
    (min x (length (slice_range samples (row * w) (row * w + w)) - 1)) 0
    ≡ sample_at p (min x (p.width - 1)) (min y (p.height - 1))
row_read p samples w h x y row list wide high down some inside =
    grind (arith, length-take-le, length-drop, get_or-take, get_or-drop, sample_read)

-- less half of the range
pub row_centred : (p : Raster) (samples : List ℕ) (w h y row depth middle : ℕ) → samples ≡ p.samples → w ≡ p.width
    → h ≡ p.height → row ≡ min y (h - 1) → 0 < w → row * w + w ≤ length samples → middle ≡ 2 ^ (depth - 1)
    → ◌≡◌ {A = Line} (centred_row (slice_range samples (row * w) (row * w + w)) middle)
    (λ x. padded_sample p depth x y)
row_centred p samples w h y row depth middle list wide high down some inside half = fun_ext (λ x.
    ap (λ n. pos n -ℤ pos middle) (row_read p samples w h x y row list wide high down some inside)
    ∙ ap (λ n. pos (sample_at p (min x (p.width - 1)) (min y (p.height - 1))) -ℤ pos n) half)

-- a row that is read lies in the plane
pub row_inside : (p : Raster) (samples : List ℕ) (w h y row : ℕ) → length samples ≡ p.width * p.height
    → w ≡ p.width → h ≡ p.height → row ≡ min y (h - 1) → 1 ≤ p.height → row * w + w ≤ length samples
row_inside p samples w h y row whole wide high down some = grind (arith, mul-le-mul_right)

-- ---- how large the filled cells are

centred_within : (s d : ℕ) → 1 ≤ d → s < 2 ^ d → unsigned_abs (pos s -ℤ pos (2 ^ (d - 1))) ≤ 2 ^ (d - 1)
centred_within s d some h =
    let whole : d ≡ suc (d - 1) = omega arith in
    let twice : 2 ^ d ≡ 2 * 2 ^ (d - 1) = ap (λ n. 2 ^ n) whole ∙ pow-suc 2 (d - 1) ∙ omega arith in
    omega (arith, ints, twice, h)

samples_below : (m : ℕ) (p : Raster) → 0 < m → All (λ s. s < m) p.samples → (x y : ℕ) → sample_at p x y < m
unfolding sample_at
samples_below m p some small x y = elim (cases_lt (y * p.width + x) (length p.samples)) [
  | inl h ↦ All-get_or (λ s. s < m) p.samples (y * p.width + x) 0 h small
  | inr h ↦ rw (get_or_past p.samples (y * p.width + x) 0 h) some
]

pub padded_within : (plane : Raster) (depth : ℕ) → 1 ≤ depth → All (λ s. s < 2 ^ depth) plane.samples → (x y : ℕ)
    → unsigned_abs (padded_sample plane depth x y) ≤ 2 ^ (depth - 1)
padded_within plane depth some small x y =
    centred_within _ depth some (samples_below (2 ^ depth) plane (pow_pos depth) small _ _)

-- a component's samples
pub same_sample : (plane : Raster) (depth : ℕ) (p : Parameters) (c : Component)
    → plane.width ≡ plane_width p.shape c → plane.height ≡ plane_height p.shape c
    → depth ≡ plane_depth p.shape c → (x y : ℕ)
    → padded_sample plane depth x y ≡ padded_plane p c (sample_at plane) x y
unfolding padded_plane
same_sample plane depth p c own_width own_height own_depth x y = grind arith

module _ (plane : Raster) (width height depth : ℕ) (first : List ℤ)
    (filled : (x y : ℕ) → x < width → y < height
    → line_of first (y * width + x) ≡ padded_sample plane depth x y) where
  module _ (whole : length first ≡ height * width) (wide : 0 < width) (some : 1 ≤ depth)
      (small : All (λ s. s < 2 ^ depth) plane.samples) where
    row_within : (i : ℕ) → i < length first → (i / width < height) ⊎ (height ≤ i / width) → i / width < height
    row_within i inside (inl lt) = lt
    row_within i inside (inr ge) =
        let below = mul-le-mul_right width ge in
        let place : i / width * width + i % width ≡ i = omega arith in
        absurd (omega (arith, below, whole, inside, place))

    pub filled_within : (i : ℕ) → unsigned_abs (line_of first i) ≤ 2 ^ (depth - 1)
    filled_within i = elim (cases_lt i (length first)) [
      | inr past ↦ rw (get_or_past first i (pos 0) past) (omega arith)
      | inl inside ↦ (
          let place : i / width * width + i % width ≡ i = omega arith in
          let row : i / width < height = row_within i inside (cases_lt (i / width) height) in
          let at : line_of first i ≡ padded_sample plane depth (i % width) (i / width) =
          ap (line_of first) (sym place) ∙ filled (i % width) (i / width) (omega arith) row in
          rw at (padded_within plane depth some small _ _))
    ]

    pub filled_below : depth ≤ 16 → AreBelow (2 ^ 16) (plane_of width first)
    filled_below few x y =
        let most : 2 ^ (depth - 1) ≤ 2 ^ 15 = pow_mono {i = depth - 1} {j = 15} (omega arith) in
        let cell = plane_small width (2 ^ (depth - 1)) first filled_within x y in
        omega (arith, most, cell)

  -- ---- the forward transform of the filled cells

  module _ (p : Parameters) (c : Component) (across : width ≡ padded_width p c)
      (down : height ≡ padded_height p c)
      (own_width : plane.width ≡ plane_width p.shape c) (own_height : plane.height ≡ plane_height p.shape c)
      (own_depth : depth ≡ plane_depth p.shape c) where
    first_agrees : (x y : ℕ) → x < padded_width p c → y < padded_height p c
        → plane_of width first x y ≡ padded_plane p c (sample_at plane) x y
    first_agrees x y h lt =
        plane_in width first x y (omega (arith, across))
        ∙ filled x y (omega (arith, across)) (omega (arith, down))
        ∙ same_sample plane depth p c own_width own_height own_depth x y

    -- of a symmetric transform, which has no levels across alone
    pub filled_levels : IsTrue (is_symmetric p) → (x y : ℕ) → x < padded_width p c → y < padded_height p c
        → forward_levels p.wavelet p.depth (lowest_width p c * 2 ^ p.depth_ho) (lowest_height p c)
        (plane_of width first) x y
        ≡ forward_transform p c (sample_at plane) x y
    unfolding forward_transform
    filled_levels symmetric x y a b =
        let side = same_side (lowest_width p c) p.depth_ho (no_levels p symmetric) in
        ap (λ n. forward_levels p.wavelet p.depth n (lowest_height p c) (plane_of width first) x y) side
        ∙ forward_levels_agrees p c (plane_of width first)
        (padded_plane p c (sample_at plane)) first_agrees x y a b

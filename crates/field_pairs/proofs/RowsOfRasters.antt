-- Lists that a function of the place makes, row by row.
use Rattle.std.proofs.Common.{◌≡◌, ℕ, zero, suc, ◌+◌, ◌-◌, ◌*◌, ◌/◌, ◌%◌, ◌<◌, ◌≤◌, List, [], ◌∷◌, ◌++◌, map, length, get_or, take, drop, arith, refl, ◌∙◌, sym, ap, inl, inr}
use Rattle.std.specs.List.{flat_map, range_with_len}
use Rattle.std.proofs.lemmas.Bool.{cases_lt}
use Rattle.std.proofs.lemmas.List.{append-nil, length-append, length-take-le, length-drop, get_or-take, get_or-drop, get_or_append_left, get_or-append_right, same_lists, get_or_default}
use Rattle.std.proofs.lemmas.List.Concat.{flat_map-append}
use Rattle.std.proofs.lemmas.List.FromFn.{length-map-range_with_len, get_or-map-range_with_len, fill_by_all}
use Rattle.std.proofs.lemmas.Nat.{mul-add-lt, rows}
use Rattle.vc_types.specs.Rasters.{Raster, raster, sample_at}
use Rattle.field_pairs.specs.Rows.{row_of}
use Rattle.field_pairs.specs.Sizes.{IsWhole}

-- what a function says of the places of one row
abbrev pub row : ℕ → (ℕ → ℕ → ℕ) → ℕ → List ℕ
row width f y = map (λ x. f x y) (range_with_len 0 width)

range_more : (a n j : ℕ) → a + n ≡ j → range_with_len a (suc n) ≡ range_with_len a n ++ j ∷ []
range_more a zero j e = ap (λ (k : ℕ). k ∷ []) (omega arith)
range_more a (suc n) j e = ap (λ l. a ∷ l) (range_more (a + 1) n j (omega arith))

-- one row more
pub raster_more : (width height : ℕ) (f : ℕ → ℕ → ℕ) → raster width (suc height) f ≡ raster width height f ++ row width f height
unfolding raster
raster_more width height f =
    ap (flat_map (row width f)) (range_more 0 height height (omega arith))
    ∙ flat_map-append (row width f) (range_with_len 0 height) (height ∷ [])
    ∙ ap (λ l. raster width height f ++ l) (append-nil (row width f height))

pub length-raster : (width height : ℕ) (f : ℕ → ℕ → ℕ) → length (raster width height f) ≡ width * height
unfolding raster
length-raster width zero f = omega arith
length-raster width (suc height) f =
    ap length (raster_more width height f)
    ∙ length-append (raster width height f) (row width f height)
    ∙ (let before = length-raster width height f in let last = length-map-range_with_len (λ x. f x height) 0 width in omega (arith, before, last))

-- the number in column x and row y
pub get_or-raster : (width height : ℕ) (f : ℕ → ℕ → ℕ) (x y : ℕ) → x < width → y < height → get_or (raster width height f) (y * width + x) 0 ≡ f x y
get_or-raster width zero f x y across down = absurd (omega arith)
get_or-raster width (suc height) f x y across down = elim (cases_lt y height) [
  | inl above ↦ (
      let inside : y * width + x < length (raster width height f) = omega (arith, mul-add-lt y width x height above across, length-raster width height f) in
      ap (λ l. get_or l (y * width + x) 0) (raster_more width height f)
      ∙ get_or_append_left (raster width height f) (row width f height) 0 (y * width + x) inside
      ∙ get_or-raster width height f x y across above)
  | inr last ↦ (
      let here : y ≡ height = omega arith in
      let behind : length (raster width height f) ≤ y * width + x = rw here (omega (arith, length-raster width height f)) in
      let place : y * width + x - length (raster width height f) ≡ x = rw here (omega (arith, length-raster width height f)) in
      ap (λ l. get_or l (y * width + x) 0) (raster_more width height f)
      ∙ get_or-append_right (raster width height f) (row width f height) (length (raster width height f)) (y * width + x) 0 refl behind
      ∙ ap (λ (i : ℕ). get_or (row width f height) i 0) place
      ∙ get_or-map-range_with_len (λ k. f k height) 0 width x x 0 across (omega arith)
      ∙ ap (f x) (sym here))
]

-- a plane that a function makes
pub sample_at-raster : (width height : ℕ) (f : ℕ → ℕ → ℕ) (x y : ℕ) → x < width → y < height → sample_at (record { width = width; height = height; samples = raster width height f }) x y ≡ f x y
unfolding sample_at
sample_at-raster width height f x y across down = get_or-raster width height f x y across down

-- a plane is what its own samples say of each place
pub raster_of_plane : (plane : Raster) (f : ℕ → ℕ → ℕ) → IsWhole plane → ((x y : ℕ) → x < plane.width → y < plane.height → f x y ≡ sample_at plane x y) → raster plane.width plane.height f ≡ plane.samples
unfolding sample_at
raster_of_plane plane f whole same = same_lists (raster plane.width plane.height f) plane.samples (length-raster plane.width plane.height f ∙ sym whole) (λ i d below. at i d below)
  where
    at : (i d : ℕ) → i < length (raster plane.width plane.height f) → get_or (raster plane.width plane.height f) i d ≡ get_or plane.samples i d
    at i d below =
        let width = plane.width in
        let size : i < width * plane.height = omega (arith, length-raster width plane.height f) in
        let some : 0 < width = grind arith in
        let across : i % width < width = omega arith in
        let down : i / width < plane.height = grind (arith, rows) in
        let place : i / width * width + i % width ≡ i = omega arith in
        get_or_default (raster width plane.height f) i d 0 below
        ∙ ap (λ (k : ℕ). get_or (raster width plane.height f) k 0) (sym place)
        ∙ get_or-raster width plane.height f (i % width) (i / width) across down
        ∙ same (i % width) (i / width) across down
        ∙ ap (λ (k : ℕ). get_or plane.samples k 0) place
        ∙ get_or_default plane.samples i 0 d (omega (arith, whole))

-- a row of a plane stands in the list of its samples
pub row_taken : (plane : Raster) (y : ℕ) → IsWhole plane → y < plane.height → take plane.width (drop (y * plane.width) plane.samples) ≡ row_of plane y
unfolding sample_at
row_taken plane y whole down =
    let width = plane.width in
    let from = drop (y * width) plane.samples in
    let fits : y * width + width ≤ width * plane.height = grind (arith, rows) in
    let enough : width ≤ length from = rw length-drop (omega (arith, whole)) in
    fill_by_all (λ x. sample_at plane x y) (take width from) width 0 (length-take-le width from enough) (λ x across.
    get_or-take width from x 0 across ∙ get_or-drop (y * width) plane.samples x 0)

-- the same at a width and samples that are known to be the plane's
pub row_at : (plane : Raster) (y width : ℕ) (samples : List ℕ) → width ≡ plane.width → samples ≡ plane.samples → IsWhole plane → y < plane.height → take (y * width + width - y * width) (drop (y * width) samples) ≡ row_of plane y
row_at plane y width samples across same whole down =
    let size : y * width + width - y * width ≡ width = omega arith in
    ap (λ n. take n (drop (y * width) samples)) size
    ∙ ap (λ n. take n (drop (y * n) samples)) across
    ∙ ap (λ l. take plane.width (drop (y * plane.width) l)) same
    ∙ row_taken plane y whole down

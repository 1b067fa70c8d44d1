-- Weaving two fields and taking a frame's rows apart, plane by plane and for three planes.
use Rattle.std.proofs.Common.{◌≡◌, ◌≢◌, ℕ, suc, ◌+◌, ◌*◌, ◌/◌, ◌%◌, ◌<◌, Bool, true, false, List, [], ◌++◌, map, arith, refl, ◌∙◌, sym, ap, ◌⊎◌}
use Rattle.std.specs.Prelude.{◌==◌, if◌then◌else◌}
use Rattle.std.specs.List.{range_with_len}
use mathlib.Core.Path.{fun_ext}
use Rattle.std.proofs.lemmas.Bool.{cases_eq}
use Rattle.vc_types.specs.FieldPairs.{interleaved_rows, every_other_row, woven, fields_of}
use Rattle.vc_types.specs.Planes.{Planes}
use Rattle.vc_types.specs.Rasters.{Raster, raster, sample_at}
use Rattle.field_pairs.specs.Rows.{row_of}
use Rattle.field_pairs.specs.Sizes.{HasSizeOf, IsWhole, HaveEqualSizes, HaveEvenHeights, AreWhole}
use Rattle.field_pairs.proofs.RowsOfRasters.{row, raster_more, sample_at-raster, raster_of_plane}

same_raster : (w v h k : ℕ) (s t : List ℕ) → w ≡ v → h ≡ k → s ≡ t → (let a : Raster = record { width = w; height = h; samples = s } in a) ≡ record { width = v; height = k; samples = t }
same_raster w v h k s t e f g = grind arith

same_planes : (y z c d e f : Raster) → y ≡ z → c ≡ d → e ≡ f → (let a : Planes = record { y = y; c1 = c; c2 = e } in a) ≡ record { y = z; c1 = d; c2 = f }
same_planes y z c d e f p q r = grind arith

-- the row of a frame, from the field that it is of
abbrev pub field_row : Raster → Raster → ℕ → ℕ → ℕ
field_row even odd x y = sample_at (if y % 2 == 0 then even else odd) x (y / 2)

even_row : (even odd : Raster) (x y : ℕ) → field_row even odd x (2 * y) ≡ sample_at even x y
even_row even odd x y = grind arith

odd_row : (even odd : Raster) (x y : ℕ) → field_row even odd x (2 * y + 1) ≡ sample_at odd x y
odd_row even odd x y = grind arith

-- ---- planes that are made row by row

-- as many columns and rows as the plane, and these samples
abbrev sized : ℕ → ℕ → List ℕ → Raster
sized width height samples = record { width = width; height = height; samples = samples }

pub frame_none : (even odd : Raster) → raster even.width (2 * 0) (field_row even odd) ≡ []
unfolding raster
frame_none even odd = refl

-- two rows more of a frame, one from each field
pub frame_more : (even odd : Raster) (y : ℕ) (first second made : List ℕ) → HasSizeOf even odd → first ≡ row_of even y → second ≡ row_of odd y → made ≡ (raster even.width (2 * y) (field_row even odd) ++ first) ++ second
    → made ≡ raster even.width (2 * (y + 1)) (field_row even odd)
frame_more even odd y first second made sizes p q is =
    let rows = field_row even odd in
    let more : suc (suc (2 * y)) ≡ 2 * (y + 1) = omega arith in
    let next : suc (2 * y) ≡ 2 * y + 1 = omega arith in
    let above : row even.width rows (2 * y) ≡ first = ap (λ (f : ℕ → ℕ). map f (range_with_len 0 even.width)) (fun_ext (λ x. even_row even odd x y)) ∙ sym p in
    let below : row even.width rows (2 * y + 1) ≡ second =
    ap (λ (f : ℕ → ℕ). map f (range_with_len 0 even.width)) (fun_ext (λ x. odd_row even odd x y))
    ∙ ap (λ (n : ℕ). map (λ x. sample_at odd x y) (range_with_len 0 n)) sizes.width ∙ sym q in
    is
    ∙ sym (ap (λ (n : ℕ). raster even.width n rows) (sym more)
    ∙ raster_more even.width (suc (2 * y)) rows
    ∙ ap (λ (l : List ℕ). l ++ row even.width rows (suc (2 * y))) (raster_more even.width (2 * y) rows ∙ ap (λ (l : List ℕ). raster even.width (2 * y) rows ++ l) above)
    ∙ ap (λ (n : ℕ). (raster even.width (2 * y) rows ++ first) ++ row even.width rows n) next
    ∙ ap (λ (l : List ℕ). (raster even.width (2 * y) rows ++ first) ++ l) below)

pub frame_whole : (even odd made : Raster) (width height done : ℕ) (samples : List ℕ) → made ≡ sized width height samples → width ≡ even.width → height ≡ 2 * even.height → done ≡ even.height → samples ≡ raster even.width (2 * done) (field_row even odd)
    → made ≡ interleaved_rows even odd
unfolding interleaved_rows
frame_whole even odd made width height done samples is across down all rows =
    grind (arith, same_raster)

-- every other row of a frame
abbrev pub chosen : Raster → ℕ → ℕ → ℕ → ℕ
chosen frame first x y = sample_at frame x (2 * y + first)

pub field_none : (frame : Raster) (first : ℕ) → raster frame.width 0 (chosen frame first) ≡ []
unfolding raster
field_none frame first = refl

pub field_more : (frame : Raster) (first y : ℕ) (next made : List ℕ) → next ≡ row_of frame (2 * y + first) → made ≡ raster frame.width y (chosen frame first) ++ next → made ≡ raster frame.width (y + 1) (chosen frame first)
field_more frame first y next made p is =
    let more : suc y ≡ y + 1 = omega arith in
    is
    ∙ ap (λ (l : List ℕ). raster frame.width y (chosen frame first) ++ l) p
    ∙ sym (raster_more frame.width y (chosen frame first))
    ∙ ap (λ (n : ℕ). raster frame.width n (chosen frame first)) more

pub field_whole : (frame made : Raster) (first width height done : ℕ) (samples : List ℕ) → made ≡ sized width height samples → width ≡ frame.width → height ≡ frame.height / 2 → done ≡ frame.height / 2 → samples ≡ raster frame.width done (chosen frame first)
    → made ≡ every_other_row first frame
unfolding every_other_row
field_whole frame made first width height done samples is across down all rows =
    grind (arith, same_raster)

-- ---- the rows of a frame that was woven

pub even_rows : (even odd : Raster) → IsWhole even → every_other_row 0 (interleaved_rows even odd) ≡ even
unfolding every_other_row interleaved_rows
even_rows even odd whole =
    let half : 2 * even.height / 2 ≡ even.height = omega arith in
    let frame = interleaved_rows even odd in
    same_raster even.width even.width (2 * even.height / 2) even.height (raster even.width (2 * even.height / 2) (λ x y. sample_at frame x (2 * y + 0))) even.samples refl half
    (ap (λ (n : ℕ). raster even.width n (λ x y. sample_at frame x (2 * y + 0))) half
    ∙ raster_of_plane even (λ x y. sample_at frame x (2 * y + 0)) whole (λ x y across down.
    let same : 2 * y + 0 ≡ 2 * y = omega arith in
    sample_at-raster even.width (2 * even.height) (field_row even odd) x (2 * y + 0) across (omega arith)
    ∙ ap (field_row even odd x) same
    ∙ even_row even odd x y))

pub odd_rows : (even odd : Raster) → HasSizeOf even odd → IsWhole odd → every_other_row 1 (interleaved_rows even odd) ≡ odd
unfolding every_other_row interleaved_rows
odd_rows even odd sizes whole =
    let half : 2 * even.height / 2 ≡ odd.height = omega arith in
    let frame = interleaved_rows even odd in
    same_raster even.width odd.width (2 * even.height / 2) odd.height (raster even.width (2 * even.height / 2) (λ x y. sample_at frame x (2 * y + 1))) odd.samples sizes.width half
    (ap (λ (n : ℕ). raster n (2 * even.height / 2) (λ x y. sample_at frame x (2 * y + 1))) sizes.width
    ∙ ap (λ (n : ℕ). raster odd.width n (λ x y. sample_at frame x (2 * y + 1))) half
    ∙ raster_of_plane odd (λ x y. sample_at frame x (2 * y + 1)) whole (λ x y across down.
    sample_at-raster even.width (2 * even.height) (field_row even odd) x (2 * y + 1) (omega arith) (omega arith)
    ∙ odd_row even odd x y))

-- ---- the rows of a frame, woven again

halves_at : (frame : Raster) → frame.height % 2 ≡ 0 → (x y : ℕ) → x < frame.width → y < frame.height → (y % 2 ≡ 0) ⊎ (y % 2 ≢ 0) → field_row (every_other_row 0 frame) (every_other_row 1 frame) x y ≡ sample_at frame x y
unfolding every_other_row
halves_at frame even x y across down o = grind (arith, sample_at-raster)

pub halves : (frame : Raster) → frame.height % 2 ≡ 0 → IsWhole frame → interleaved_rows (every_other_row 0 frame) (every_other_row 1 frame) ≡ frame
unfolding interleaved_rows every_other_row
halves frame even whole =
    let twice : 2 * (frame.height / 2) ≡ frame.height = omega arith in
    let rows = field_row (every_other_row 0 frame) (every_other_row 1 frame) in
    same_raster frame.width frame.width (2 * (frame.height / 2)) frame.height (raster frame.width (2 * (frame.height / 2)) rows) frame.samples refl twice
    (ap (λ (n : ℕ). raster frame.width n rows) twice
    ∙ raster_of_plane frame rows whole (λ x y across down. halves_at frame even x y across down (cases_eq (y % 2) 0)))

-- ---- three planes

same_fields : (a b c d : Planes) → a ≡ b → c ≡ d → (let p : Planes × Planes = (a, c) in p) ≡ (b, d)
same_fields a b c d p q = ap (λ (n : Planes). let r : Planes × Planes = (n, c) in r) p ∙ ap (λ (n : Planes). let r : Planes × Planes = (b, n) in r) q

has_size_turned : (a b : Raster) → HasSizeOf a b → HasSizeOf b a
has_size_turned a b h = record { width = sym h.width; height = sym h.height }

pub fields_of-woven : (top_first : Bool) (earlier later : Planes) → HaveEqualSizes earlier later → AreWhole earlier → AreWhole later → fields_of top_first (woven top_first earlier later) ≡ (earlier, later)
fields_of-woven top_first earlier later sizes first second =
    grind (arith, even_rows, has_size_turned, odd_rows, same_fields, same_planes)

pub woven-fields_of : (top_first : Bool) (frame : Planes) → HaveEvenHeights frame → AreWhole frame → woven top_first (fields_of top_first frame).0 (fields_of top_first frame).1 ≡ frame
woven-fields_of true frame even whole = same_planes _ frame.y _ frame.c1 _ frame.c2 (halves frame.y even.y whole.y) (halves frame.c1 even.c1 whole.c1) (halves frame.c2 even.c2 whole.c2)
woven-fields_of false frame even whole = same_planes _ frame.y _ frame.c1 _ frame.c2 (halves frame.y even.y whole.y) (halves frame.c1 even.c1 whole.c1) (halves frame.c2 even.c2 whole.c2)

pub ruleset weaving_laws = (fields_of-woven, woven-fields_of)

-- The shape of a picture is one that is coded, by what a header's fields have to be.
use Rattle.std.proofs.Common.{◌≡◌, ℕ, zero, suc, ◌+◌, ◌/◌, ◌%◌, ◌^◌, ◌≤◌, Bool, true, false, leb, arith}
use Rattle.std.specs.Prelude.{IsTrue, ◌&&◌, ◌==◌}
use Rattle.std.proofs.lemmas.Bool.{and_parts, and_from, leb-true, le-leb}
use Rattle.std.proofs.lemmas.Bool.Decides.{nat_tests}
use Rattle.vc_types.specs.Limits.{shape_fits, depth_fits}
use Rattle.vc_types.specs.SequenceHeader.{Sequence, picture_shape}
use Rattle.vc_types.specs.Video.{side_fits, sampling_fits, dimensions_fit, excursion_fits, colour_width, colour_height, picture_height, video_depth}
use Rattle.vc_types.proofs.VideoDepths.{is_least}
use Rattle.vc_types.specs.declared.video.Sampling.{Sampling}
use Rattle.vc_types.specs.declared.video.Sampling.TheVariants.{S444, S422, S420}

pub record IsSide (n : ℕ) : Type 0 where
  pub some : 1 ≤ n
  pub most : n ≤ 8192

pub side_is : (n : ℕ) → IsTrue (side_fits n) → IsSide n
side_is n h =
    let parts = and_parts (leb 1 n) (leb n 8192) h in
    record { some = leb-true 1 n parts.0; most = leb-true n 8192 parts.1 }

side_from : (n : ℕ) → IsSide n → IsTrue (side_fits n)
side_from n s = and_from (leb 1 n) (leb n 8192) (le-leb 1 n s.some) (le-leb n 8192 s.most)

halved : (n : ℕ) → IsTrue (side_fits n) → IsTrue (n % 2 == 0) → IsTrue (side_fits (n / 2))
halved n fits even =
    let s = side_is n fits in
    let e : n % 2 ≡ 0 = grind (arith, nat_tests) in
    let some : 1 ≤ n / 2 = omega (arith, s) in
    let most : n / 2 ≤ 8192 = omega (arith, s) in
    side_from (n / 2) (record { some = some; most = most })

halved_twice : (n : ℕ) → IsTrue (side_fits n) → IsTrue (n % 4 == 0) → IsTrue (side_fits (n / 2 / 2))
halved_twice n fits even =
    let s = side_is n fits in
    let e : n % 4 ≡ 0 = grind (arith, nat_tests) in
    let some : 1 ≤ n / 2 / 2 = omega (arith, s) in
    let most : n / 2 / 2 ≤ 8192 = omega (arith, s) in
    side_from (n / 2 / 2) (record { some = some; most = most })

-- the heights of luma and colour, and the width of colour
abbrev SidesFit : ℕ → ℕ → Sampling → Bool → Type 0
SidesFit width height sampling fields = IsTrue (side_fits (picture_height fields height)) × IsTrue (side_fits (colour_width sampling width)) × IsTrue (side_fits (picture_height fields (colour_height sampling height)))

sides : (width height : ℕ) (sampling : Sampling) (fields : Bool) → IsTrue (side_fits width) → IsTrue (side_fits height) → IsTrue (sampling_fits width height sampling fields) → SidesFit width height sampling fields
sides width height S444 false w h fits = (h, w, h)
sides width height S444 true w h fits = (halved height h fits, w, halved height h fits)
sides width height S422 false w h fits = let p = and_parts (width % 2 == 0) true fits in (h, halved width w p.0, h)
sides width height S422 true w h fits = let p = and_parts (width % 2 == 0) (height % 2 == 0) fits in (halved height h p.1, halved width w p.0, halved height h p.1)
sides width height S420 false w h fits =
    let p = and_parts (width % 2 == 0 && height % 2 == 0) true fits in
    let q = and_parts (width % 2 == 0) (height % 2 == 0) p.0 in
    (h, halved width w q.0, halved height h q.1)
sides width height S420 true w h fits =
    let p = and_parts (width % 2 == 0 && height % 2 == 0) (height % 4 == 0) fits in
    let q = and_parts (width % 2 == 0) (height % 2 == 0) p.0 in
    (halved height h q.1, halved width w q.0, halved_twice height h p.1)

-- the bits of a sample
pub video_depth_fits : (excursion : ℕ) → IsTrue (excursion_fits excursion) → IsTrue (depth_fits (video_depth excursion))
video_depth_fits excursion fits =
    let range = and_parts (leb 1 excursion) (leb excursion 65535) fits in
    let low = leb-true 1 excursion range.0 in
    let high = leb-true excursion 65535 range.1 in
    let least = is_least excursion high in
    and_from (leb 1 (video_depth excursion)) (leb (video_depth excursion) 16) (le-leb 1 (video_depth excursion) (some (video_depth excursion) low least.enough)) (le-leb (video_depth excursion) 16 (least.least 16 (omega (arith, high))))
  where
    some : (d : ℕ) → 1 ≤ excursion → excursion + 1 ≤ 2 ^ d → 1 ≤ d
    some zero low enough = absurd (omega (arith, low, enough))
    some (suc d) low enough = omega arith

pub picture_shape_fits : (s : Sequence) → IsTrue (dimensions_fit s.width s.height s.sampling s.fields) → IsTrue (excursion_fits s.range.luma_excursion) → IsTrue (excursion_fits s.range.colour_excursion) → IsTrue (shape_fits (picture_shape s))
unfolding picture_shape
picture_shape_fits s dimensions luma colour =
    let d = and_parts (side_fits s.width && side_fits s.height) (sampling_fits s.width s.height s.sampling s.fields) dimensions in
    let w = and_parts (side_fits s.width) (side_fits s.height) d.0 in
    let z = sides s.width s.height s.sampling s.fields w.0 w.1 d.1 in
    and_from _ _ (and_from _ _ (and_from _ _ (and_from _ _ (and_from _ _ w.0 z.0) z.1) z.2) (video_depth_fits s.range.luma_excursion luma)) (video_depth_fits s.range.colour_excursion colour)

-- the sides of the luma
pub luma_sides : (s : Sequence) → IsTrue (dimensions_fit s.width s.height s.sampling s.fields) → IsSide (picture_shape s).luma_width × IsSide (picture_shape s).luma_height
unfolding picture_shape
luma_sides s dimensions =
    let d = and_parts (side_fits s.width && side_fits s.height) (sampling_fits s.width s.height s.sampling s.fields) dimensions in
    let w = and_parts (side_fits s.width) (side_fits s.height) d.0 in
    let z = sides s.width s.height s.sampling s.fields w.0 w.1 d.1 in
    (side_is s.width w.0, side_is (picture_height s.fields s.height) z.0)

-- Levels in 32 bits, whose rows stand in turn: what each makes of the nested subbands, and how far it
-- reaches.
use Rattle.std.proofs.Common.{◌≡◌, ℕ, suc, ◌+◌, ◌-◌, ◌*◌, ◌^◌, ◌<◌, ◌≤◌, List, ℤ, arith, ap, sym, ◌∙◌}
use Rattle.std.proofs.lemmas.Nat.{pow-add}
use Rattle.std.proofs.Math.Nat.{mul-le-mul_left, mul-le-mul_right, div-mul-le_self, pow-suc}
use Rattle.std.proofs.Math.Pow.{pow_mono, pow_pos}
use Rattle.vc_types.specs.declared.video.Component.{Component}
use Rattle.vc_types.specs.Lifting.{Line}
use Rattle.vc_types.specs.Subbands.{padded_width, padded_height}
use Rattle.vc_types.specs.TransformParameters.{Parameters}
use Rattle.vc_types.specs.Transforms.{Cells, on_columns, on_rows, forward_level}
use Rattle.vc_types.specs.Transforms.{forward_levels, lowest_width, lowest_height}
use Rattle.vc_types.specs.Wavelets.{is_shifted, analysed}
use Rattle.vc_wave.specs.declared.pass.Direction.TheVariants.{Analysis}
use Rattle.vc_wave.specs.Layout.{laid_out, row_in_turn}
use Rattle.vc_wave.specs.Planes.{HasRoom, plane_of}
use Rattle.vc_wave.specs.Remade.{remade, halves_together, halves_apart, parted_in_turn}
use Rattle.vc_wave.proofs.LayoutLaws.{laid_together, laid_after}
use Rattle.vc_wave.proofs.Levels.{level_fits, twice_side, no_forward, next_forward}
use Rattle.vc_wave.proofs.Levels.{whole_room}
use Rattle.vc_wave.proofs.PlaneLines.{on_columns-on_columns, on_columns-same}
use Rattle.vc_wave.proofs.TransformLocality.{StaysIn, both_stay, columns_stay, rows_stay}
use Rattle.vc_wave.proofs.TransformLocality.{side_whole, less}
use Rattle.vc_wave.proofs.Weaving.{remade_pass, analysis_pass, remade_parted}
use Rattle.vc_wave.proofs.Weaving.{halves_apart-halves_together, forward_level_remade}

-- ---- a level

module _ (wavelet w h : ℕ) where
  abbrev rows_apart : Cells → Cells
  rows_apart = on_rows (remade Analysis wavelet (is_shifted wavelet) w) (2 * h)

  parted_stays : StaysIn (2 * w) (2 * h) (parted_in_turn wavelet w h)
  unfolding parted_in_turn
  parted_stays =
      both_stay (2 * w) (2 * h) (on_columns (analysed wavelet (2 * h)) (2 * w)) rows_apart
      (columns_stay (2 * w) (2 * h) (analysed wavelet (2 * h)) (2 * w) (2 * h) (analysis_pass wavelet h)
      (omega arith) (omega arith))
      (rows_stay (2 * w) (2 * h) (remade Analysis wavelet (is_shifted wavelet) w) (2 * h) (2 * w)
      (remade_pass Analysis wavelet (is_shifted wavelet) w) (omega arith) (omega arith))

  -- with its rows put apart, it is the level of the nested subbands
  parted_level : (c d : Cells) → on_columns (halves_together h) (2 * w) d ≡ parted_in_turn wavelet w h c
      → d ≡ forward_level wavelet w h c
  unfolding parted_in_turn
  parted_level c d is =
      sym (on_columns-on_columns (halves_apart h) (halves_together h) (2 * w) d
      ∙ on_columns-same (λ l. halves_apart h (halves_together h l)) (2 * w) d
      (halves_apart-halves_together h))
      ∙ ap (on_columns (halves_apart h) (2 * w)) is
      ∙ on_columns-on_columns (halves_apart h) (analysed wavelet (2 * h)) (2 * w) (rows_apart c)
      ∙ ap (λ (f : Line → Line). on_columns f (2 * w) (rows_apart c)) (remade_parted wavelet h)
      ∙ sym (forward_level_remade wavelet w h c)

  pub level_apart : (c : Cells) → laid_out 1 w h (parted_in_turn wavelet w h c) ≡ forward_level wavelet w h c
  unfolding row_in_turn
  level_apart c =
      parted_level c (laid_out 1 w h (parted_in_turn wavelet w h c))
      (sym (laid_together 0 w h (parted_in_turn wavelet w h c)))

  module _ (level stride : ℕ) (old new : List ℤ) (wide : 2 * w ≤ stride) where
    level_parted : plane_of (stride * 2 ^ level) new
        ≡ parted_in_turn wavelet w h (plane_of (stride * 2 ^ level) old)
        → laid_out (suc level) w h (plane_of stride new)
        ≡ forward_level wavelet w h (laid_out level (2 * w) (2 * h) (plane_of stride old))
    level_parted made =
        parted_level (laid_out level (2 * w) (2 * h) (plane_of stride old))
        (laid_out (suc level) w h (plane_of stride new))
        (sym (laid_together level w h (plane_of stride new))
        ∙ laid_after (parted_in_turn wavelet w h) (2 * w) (2 * h) level (2 * w) (2 * h) stride
        (omega arith) (omega arith) wide parted_stays old new made)

-- ---- levels in turn, from the highest down

module _ (wavelet levels w h stride : ℕ) (whole : Cells) where
  -- so many levels are taken apart
  abbrev pub AreParted : ℕ → List ℤ → Type 0
  AreParted n cells =
      forward_levels wavelet (levels - n) w h
      (laid_out n (w * 2 ^ (levels - n)) (h * 2 ^ (levels - n)) (plane_of stride cells)) ≡ whole

  pub next_parted : (n : ℕ) (old new : List ℤ) → n < levels → w * 2 ^ levels ≤ stride → AreParted n old
      → (pitch columns rows : ℕ) → pitch ≡ stride * 2 ^ n → columns ≡ w * 2 ^ (levels - 1 - n)
      → rows ≡ h * 2 ^ (levels - 1 - n)
      → plane_of pitch new ≡ parted_in_turn wavelet columns rows (plane_of pitch old) → AreParted (n + 1) new
  next_parted n old new lt wide so_far pitch columns rows apart across down made =
      let left = levels - 1 - n in
      let rest : levels - (n + 1) ≡ left = omega arith in
      let before : levels - n ≡ left + 1 = omega arith in
      let one : n + 1 ≡ suc n = omega arith in
      let fits = level_fits w left levels (omega arith) in
      rw (rest, one)
      (next_forward wavelet left w h
      (laid_out n (2 * (w * 2 ^ left)) (2 * (h * 2 ^ left)) (plane_of stride old))
      (laid_out (suc n) (w * 2 ^ left) (h * 2 ^ left) (plane_of stride new)) whole
      (level_parted wavelet (w * 2 ^ left) (h * 2 ^ left) n stride old new (omega (arith, fits, wide))
      (rw (apart, across, down) at made))
      (rw (before, twice_side w left, twice_side h left) at so_far))

  pub last_parted : (n : ℕ) (cells : List ℤ) → n ≡ levels → AreParted n cells
      → laid_out levels w h (plane_of stride cells) ≡ whole
  last_parted n cells e so_far = grind (arith, no_forward)

-- ---- rooms

two_powers : (levels n : ℕ) → n < levels → 2 * 2 ^ n * 2 ^ (levels - 1 - n) ≡ 2 ^ levels
two_powers levels n h = grind (arith, pow-suc, pow-add)

stride_less : (stride left : ℕ) → stride ≤ stride * 2 ^ left
stride_less stride left =
    (let more : stride * 1 ≤ stride * 2 ^ left = mul-le-mul_left stride (pow_pos left) in omega (arith, more))

pub pitch_fits : (stride h levels left cells : ℕ) → 0 < h → left ≤ levels → h * 2 ^ levels * stride ≤ cells
    → stride * 2 ^ left ≤ cells
pitch_fits stride h levels left cells some le fits =
    let power : 2 ^ left ≤ 2 ^ levels = pow_mono le in
    let once : 1 * 2 ^ levels ≤ h * 2 ^ levels = mul-le-mul_right (2 ^ levels) some in
    let all : 2 ^ left * stride ≤ h * 2 ^ levels * stride =
    mul-le-mul_right stride (omega (arith, power, once)) in
    omega (arith, all, fits)

regroup : (h stride a b : ℕ) → 2 * (h * a) * (stride * b) ≡ h * (2 * a * b) * stride
regroup h stride a b = omega arith

module _ (w h levels stride cells line : ℕ)
    (room : HasRoom (w * 2 ^ levels) (h * 2 ^ levels) stride cells 0 line) where
  -- a level has room among all of them
  turn_room : (n : ℕ) → n < levels
      → HasRoom (2 * (w * 2 ^ n)) (2 * (h * 2 ^ n)) (stride * 2 ^ (levels - 1 - n)) cells 0 line
  turn_room n lt =
      let wide = level_fits w n levels lt in
      let more = stride_less stride (levels - 1 - n) in
      let whole : 2 * (h * 2 ^ n) * (stride * 2 ^ (levels - 1 - n)) ≡ h * 2 ^ levels * stride =
      regroup h stride (2 ^ n) (2 ^ (levels - 1 - n)) ∙ ap (λ p. h * p * stride) (two_powers levels n lt) in
      record {
        across = omega (arith, wide, room.across, more);
        down = omega (arith, whole, room.down);
        row = omega (arith, wide, room.row);
        side_by_side = omega arith;
      }

  pub parted_room : (n : ℕ) → n < levels
      → HasRoom (2 * (w * 2 ^ (levels - 1 - n))) (2 * (h * 2 ^ (levels - 1 - n)))
      (stride * 2 ^ n) cells 0 line
  parted_room n lt =
      let back : levels - 1 - (levels - 1 - n) ≡ n = omega arith in
      rw back at (turn_room (levels - 1 - n) (omega arith))

-- ---- a component

pub all_rooms : (p : Parameters) (c : Component) (stride cells line : ℕ) → padded_width p c ≤ stride
    → padded_height p c * stride ≤ cells → padded_width p c ≤ line
    → HasRoom (lowest_width p c * 2 ^ p.depth_ho * 2 ^ p.depth)
    (lowest_height p c * 2 ^ p.depth) stride cells 0 line
all_rooms p c stride cells line across down row =
    whole_room p c stride cells 0 line
    (record { across = across; down = down; row = row; side_by_side = omega arith })

pub sides_small : (p : Parameters) (c : Component) (w h : ℕ) → w ≡ lowest_width p c → h ≡ lowest_height p c
    → padded_width p c < 2 ^ 32 → padded_height p c < 2 ^ 32
    → (w * 2 ^ p.depth_ho < 2 ^ 32) × (w * 2 ^ p.depth_ho * 2 ^ p.depth < 2 ^ 60) × (h * 2 ^ p.depth < 2 ^ 60)
    × (w * 2 ^ p.depth_ho ≤ padded_width p c)
sides_small p c w h narrow low across down =
    rw (narrow, low)
    (let side = less (lowest_width p c * 2 ^ p.depth_ho) p.depth (padded_width p c)
    (side_whole (padded_width p c) p.depth p.depth_ho) in
    let wide = side_whole (padded_width p c) p.depth p.depth_ho in
    let high = div-mul-le_self (padded_height p c) (2 ^ p.depth) in
    (omega (arith, side), omega (arith, wide), omega (arith, high), side))

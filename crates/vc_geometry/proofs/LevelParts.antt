-- The rectangles of a level's subbands, behind those of the levels below it.
use Rattle.std.proofs.Common.{◌≡◌, ℕ, ◌+◌, ◌-◌, ◌*◌, ◌<◌, ◌≤◌, List, length, set, arith, refl, ap}
use Rattle.std.proofs.lemmas.List.{length-set}
use Rattle.vc_types.specs.declared.rect.Rect.{Rect}
use Rattle.vc_types.specs.declared.video.Component.{Component}
use Rattle.vc_types.specs.Quantisation.{subband_count}
use Rattle.vc_types.specs.Subbands.{levels, slice_column, slice_row, padded_width, padded_height}
use Rattle.vc_types.specs.TransformParameters.{Parameters}
use Rattle.vc_types.proofs.SubbandOrder.{orientation-LL, orientation-H, orientation-HL, orientation-LH, orientation-HH}
use Rattle.vc_geometry.specs.declared.spans.Span.{Span}
use Rattle.vc_geometry.specs.Parts.{part_of}
use Rattle.vc_geometry.specs.Rectangles.{ArePartsOf}
use Rattle.vc_geometry.proofs.HalvedShares.{IsHalf, add_part}
use Rattle.vc_geometry.proofs.RectanglesInTurn.{no_parts}

module _ (p : Parameters) (c : Component) (slice : ℕ) (rects : List Rect) (columns rows : Span)
    (room : subband_count p.depth_ho p.depth ≤ length rects)
    (small : (padded_width p c ≤ 8192) × (padded_height p c ≤ 8192)) where
  -- of the lowest level
  pub add_lowest : (wide deep : ℕ) → wide ≡ levels p → deep ≡ p.depth
      → IsHalf (padded_width p c) p.slices_x (slice_column p slice) wide columns.side columns.from columns.to
      → IsHalf (padded_height p c) p.slices_y (slice_row p slice) deep rows.side rows.from rows.to
      → columns.side ≤ padded_width p c → rows.side ≤ padded_height p c
      → ArePartsOf p c slice 1 (set rects 0 (part_of 0 0 columns rows))
  add_lowest wide deep wide_is deep_is across down fits_across fits_down =
      add_part p c slice 0 rects 1 (part_of 0 0 columns rows) _ 0 0 _ _ _ _ _ _ _ _
      (no_parts p c slice rects) (omega arith) (omega arith) (orientation-LL p.depth_ho 0 refl)
      (omega arith) (omega arith) across down refl refl refl (omega arith) (omega arith) small

  -- of a level across alone
  pub add_across : (level b n wide deep : ℕ) → level < p.depth_ho → wide ≡ levels p - level → deep ≡ p.depth → b ≡ 1 + level → n ≡ b + 1
      → IsHalf (padded_width p c) p.slices_x (slice_column p slice) wide columns.side columns.from columns.to
      → IsHalf (padded_height p c) p.slices_y (slice_row p slice) deep rows.side rows.from rows.to
      → columns.side + columns.side ≤ padded_width p c → rows.side ≤ padded_height p c
      → ArePartsOf p c slice b rects
      → ArePartsOf p c slice n (set rects b (part_of columns.side 0 columns rows))
  add_across level b n wide deep below wide_is deep_is is next across down fits_across fits_down before =
      add_part p c slice b rects n (part_of columns.side 0 columns rows) _ columns.side 0 _ _ _ _ _ _ _ _
      before (omega arith) (omega arith) (orientation-H p.depth_ho b (λ none. absurd (omega arith)) (omega arith))
      (omega arith) (omega arith) across down next refl refl fits_across (omega arith) small

  -- of a level both ways
  pub add_level : (level b n times : ℕ) → level < p.depth → times ≡ p.depth - level → b ≡ 1 + p.depth_ho + 3 * level → n ≡ b + 3
      → IsHalf (padded_width p c) p.slices_x (slice_column p slice) times columns.side columns.from columns.to
      → IsHalf (padded_height p c) p.slices_y (slice_row p slice) times rows.side rows.from rows.to
      → columns.side + columns.side ≤ padded_width p c → rows.side + rows.side ≤ padded_height p c
      → ArePartsOf p c slice b rects
      → ArePartsOf p c slice n (set (set (set rects
      b (part_of columns.side 0 columns rows))
      (b + 1) (part_of 0 rows.side columns rows))
      (b + 2) (part_of columns.side rows.side columns rows))
  add_level level b n times below times_is is next across down fits_across fits_down before =
      let hl = part_of columns.side 0 columns rows in
      let lh = part_of 0 rows.side columns rows in
      let hh = part_of columns.side rows.side columns rows in
      let long = length-set rects b hl in
      let longer = length-set (set rects b hl) (b + 1) lh in
      let narrow : 0 + columns.side ≤ padded_width p c = omega arith in
      let low : 0 + rows.side ≤ padded_height p c = omega arith in
      let first = add_part p c slice b rects (b + 1) hl _ columns.side 0 _ _ _ _ _ _ _ _
      before (omega arith) (omega arith) (orientation-HL p.depth_ho b (omega arith) (omega arith))
      (omega arith) (omega arith) across down refl refl refl fits_across low small in
      let second = add_part p c slice (b + 1) (set rects b hl) (b + 2) lh _ 0 rows.side _ _ _ _ _ _ _ _
      first (omega (arith, long)) (omega arith) (orientation-LH p.depth_ho (b + 1) (omega arith) (omega arith))
      (omega arith) (omega arith) across down (omega arith) refl refl narrow fits_down small in
      add_part p c slice (b + 2) (set (set rects b hl) (b + 1) lh) n hh _ columns.side rows.side _ _ _ _ _ _ _ _
      second (omega (arith, long, longer)) (omega arith)
      (orientation-HH p.depth_ho (b + 2) (omega arith) (λ one. absurd (omega arith)) (λ other. absurd (omega arith)))
      (omega arith) (omega arith) across down (omega arith) refl refl fits_across fits_down small

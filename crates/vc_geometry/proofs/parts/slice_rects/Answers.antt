use Rattle.std.proofs.Common.{◌+◌, ◌-◌, ◌*◌, ◌≤◌, arith, refl, subst}
use Rattle.std.proofs.lemmas.List.{length-set}
use Rattle.vc_types.specs.Subbands.{levels, plane_width, plane_height, slice_column, slice_row}
use Rattle.vc_types.specs.TransformParameters.{parameters_of}
use Rattle.vc_geometry.specs.Rectangles.{ArePartsOf}
use Rattle.vc_geometry.proofs.HalvedShares.{half}
use Rattle.vc_geometry.proofs.LevelParts.{add_lowest, add_across, add_level}
use Rattle.vc_geometry.proofs.parts.slice_rects.Goals as goal

pub halved-lowest-requires : goal.halved-lowest-requires
halved-lowest-requires c = omega arith

pub halved-requires : goal.halved-requires
halved-requires c = omega arith

pub halved-columns-requires : goal.halved-columns-requires
halved-columns-requires c = omega arith

pub halved-columns-requires-in-loop-level-2 : goal.halved-columns-requires-in-loop-level-2
halved-columns-requires-in-loop-level-2 c = omega arith

pub halved-rows-requires : goal.halved-rows-requires
halved-rows-requires c = omega arith

pub part-requires-in-loop-level : goal.part-requires-in-loop-level
part-requires-in-loop-level c = record { range = (omega arith, omega arith) }

pub put_level-requires : goal.put_level-requires
put_level-requires c = record {
  room = omega (arith, length-set c.args.rects.now 0 c.part.result);
  half = (omega arith, omega arith);
}

pub bounds-rects-level : goal.bounds-rects-level
bounds-rects-level c = omega (arith, length-set c.args.rects.now 0 c.part.result)

pub offset_bounds-rects-level : goal.offset_bounds-rects-level
offset_bounds-rects-level c = omega (arith, length-set c.args.rects.now 0 c.part.result)

pub loop-level-init : goal.loop-level-init
loop-level-init c =
    let p = parameters_of c.args.plan.now in
    let whole = c.padded-width.ensures in
    let at = c.place_of_slice-column.ensures in
    let columns = half (plane_width p.shape c.args.c) (levels p) (c.from-depth.result + c.from-across.result) p.slices_x (slice_column p c.args.slice)
    _ _ _ _ _ c.halved.result.side c.halved.result.from c.halved.result.to (omega arith)
    whole.width at.column c.new-columns.ensures.side c.new-columns.ensures.from c.new-columns.ensures.to
    c.halved.ensures.side c.halved.ensures.from c.halved.ensures.to c.halved.result.ordered in
    let rows = half (plane_height p.shape c.args.c) p.depth c.from-depth.result p.slices_y (slice_row p c.args.slice)
    _ _ _ _ _ c.halved-lowest.result.side c.halved-lowest.result.from c.halved-lowest.result.to (omega arith)
    whole.height at.row c.new-rows.ensures.side c.new-rows.ensures.from c.new-rows.ensures.to
    c.halved-lowest.ensures.side c.halved-lowest.ensures.from c.halved-lowest.ensures.to c.halved-lowest.result.ordered in
    rw c.part.ensures.value (add_lowest p c.args.c c.args.slice c.args.rects.now c.halved.result c.halved-lowest.result
    c.requires.room (omega arith) _ _ (omega arith) (omega arith) columns rows (omega arith) (omega arith))

pub loop-level-preserved : goal.loop-level-preserved
loop-level-preserved c =
    let p = parameters_of c.args.plan.now in
    let whole = c.padded-width.ensures in
    let at = c.place_of_slice-column.ensures in
    let columns = half (plane_width p.shape c.args.c) (levels p) (c.from-depth.result + c.from-across.result - c.loop-level.level) p.slices_x (slice_column p c.args.slice)
    _ _ _ _ _ c.halved-columns.result.side c.halved-columns.result.from c.halved-columns.result.to (omega arith)
    whole.width at.column c.new-columns.ensures.side c.new-columns.ensures.from c.new-columns.ensures.to
    c.halved-columns.ensures.side c.halved-columns.ensures.from c.halved-columns.ensures.to c.halved-columns.result.ordered in
    let rows = half (plane_height p.shape c.args.c) p.depth c.from-depth.result p.slices_y (slice_row p c.args.slice)
    _ _ _ _ _ c.halved-lowest.result.side c.halved-lowest.result.from c.halved-lowest.result.to (omega arith)
    whole.height at.row c.new-rows.ensures.side c.new-rows.ensures.from c.new-rows.ensures.to
    c.halved-lowest.ensures.side c.halved-lowest.ensures.from c.halved-lowest.ensures.to c.halved-lowest.result.ordered in
    rw c.part-in-loop-level.ensures.value (add_across p c.args.c c.args.slice c.loop-level.rects
    c.halved-columns.result c.halved-lowest.result (omega (arith, length-set c.args.rects.now 0 c.part.result))
    (omega arith)
    c.loop-level.level (1 + c.loop-level.level) _ _ _ (omega arith) (omega arith) (omega arith) refl (omega arith) columns rows (omega arith) (omega arith)
    c.loop-level.invariant)

pub loop-level-2-init : goal.loop-level-2-init
loop-level-2-init c =
    subst (λ n. ArePartsOf (parameters_of c.args.plan.now) c.args.c c.args.slice n c.loop-level.rects) (omega arith) c.loop-level.invariant

pub loop-level-2-preserved : goal.loop-level-2-preserved
loop-level-2-preserved c =
    let p = parameters_of c.args.plan.now in
    let whole = c.padded-width.ensures in
    let at = c.place_of_slice-column.ensures in
    let columns = half (plane_width p.shape c.args.c) (levels p) (c.from-depth.result - c.loop-level-2.level) p.slices_x (slice_column p c.args.slice)
    _ _ _ _ _ c.halved-columns-in-loop-level-2.result.side c.halved-columns-in-loop-level-2.result.from c.halved-columns-in-loop-level-2.result.to (omega arith)
    whole.width at.column c.new-columns.ensures.side c.new-columns.ensures.from c.new-columns.ensures.to
    c.halved-columns-in-loop-level-2.ensures.side c.halved-columns-in-loop-level-2.ensures.from c.halved-columns-in-loop-level-2.ensures.to c.halved-columns-in-loop-level-2.result.ordered in
    let rows = half (plane_height p.shape c.args.c) p.depth (c.from-depth.result - c.loop-level-2.level) p.slices_y (slice_row p c.args.slice)
    _ _ _ _ _ c.halved-rows.result.side c.halved-rows.result.from c.halved-rows.result.to (omega arith)
    whole.height at.row c.new-rows.ensures.side c.new-rows.ensures.from c.new-rows.ensures.to
    c.halved-rows.ensures.side c.halved-rows.ensures.from c.halved-rows.ensures.to c.halved-rows.result.ordered in
    rw c.put_level.ensures (add_level p c.args.c c.args.slice c.loop-level-2.rects
    c.halved-columns-in-loop-level-2.result c.halved-rows.result
    (omega (arith, length-set c.args.rects.now 0 c.part.result)) (omega arith)
    c.loop-level-2.level (1 + c.from-across.result + 3 * c.loop-level-2.level) _ _ (omega arith) (omega arith) (omega arith) (omega arith)
    columns rows (omega arith) (omega arith) c.loop-level-2.invariant)

pub returns : goal.returns
returns c = subst (λ n. ArePartsOf (parameters_of c.args.plan.now) c.args.c c.args.slice n c.loop-level-2.rects) (omega arith) c.loop-level-2.invariant

use Rattle.std.proofs.Common.{◌≡◌, ◌+◌, ◌*◌, ◌<◌, ◌≤◌, ℕ, length, arith, ap, sym, ◌∙◌}
use Rattle.link_model.specs.SendingPictures.{number_at_place}
use Rattle.vc_types.specs.Subbands.{place_in, padded_width}
use Rattle.vc_types.specs.TransformParameters.{parameters_of}
use Rattle.vc_types.specs.Transforms.{lowest_height}
use Rattle.vc_types.proofs.SliceCounts.{some_across}
use Rattle.vc_types.proofs.SliceRectangles.{coefficients_before-none}
use Rattle.vc_wave.specs.Layout.{nested_in, turned_row}
use Rattle.picture_encode.proofs.BandParts.{part_inside, part_row}
use Rattle.picture_encode.proofs.CopiedSlices.{room_left, next_before, rect_copied, rect_numbers, all_copied, rows_inside, rows_told}
use Rattle.picture_encode.proofs.gathering.copy_slice.Goals as goal

pub loop-b-init : goal.loop-b-init
loop-b-init c = record { from = sym (coefficients_before-none (parameters_of c.args.parts.now.plan) c.args.c c.args.parts.now.slice); copied = λ i h. absurd (omega arith) }

pub rows_from-rows-requires-clause-number : goal.rows_from-rows-requires-clause-number
rows_from-rows-requires-clause-number c = omega (arith, c.requires.grid.none_across, c.nesting_of-nesting.ensures.levels)

pub invariant_of-source-clause-down : goal.invariant_of-source-clause-down
invariant_of-source-clause-down c = λ row h.
    let plan = c.args.parts.now.plan in
    let p = parameters_of plan in
    let n = c.nesting_of-nesting in
    let r = c.rect-rect.result in
    let rows = c.rows_from-rows in
    let told = rows_told n.result.levels n.result.h p.depth (lowest_height p c.args.c) c.loop-b.b r.y rows.result.first rows.result.step row n.ensures.levels n.ensures.h rows.ensures.first rows.ensures.step in
    let inside = part_inside p c.args.c c.loop-b.b c.args.parts.now.slice (omega arith) plan.some_levels c.requires.grid.none_across (some_across plan.slices_x plan.slices_y plan.slices) c.args.parts.now.in_plan r c.rect-rect.ensures.value row h in
    rows_inside p c.args.c (rows.result.first + row * rows.result.step) c.padded-width.result.0 (length c.args.cells.now) (omega (arith, told, inside)) c.padded-width.ensures.width c.requires.grid.size

pub copy_rect-requires : goal.copy_rect-requires
copy_rect-requires c =
    let p = parameters_of c.args.parts.now.plan in
    let room = room_left p c.args.c c.args.parts.now.slice (nested_in p c.args.c (padded_width p c.args.c) c.args.cells.now) c.loop-b.b c.loop-b.from (length c.args.coeffs.now) c.rect-rect.result (omega arith) c.rect-rect.ensures.value c.loop-b.invariant.from c.requires.coeffs in
    omega (arith, room, c.loop-b.auto.coeffs)

pub overflow_add-from : goal.overflow_add-from
overflow_add-from c =
    let p = parameters_of c.args.parts.now.plan in
    let room = room_left p c.args.c c.args.parts.now.slice (nested_in p c.args.c (padded_width p c.args.c) c.args.cells.now) c.loop-b.b c.loop-b.from (length c.args.coeffs.now) c.rect-rect.result (omega arith) c.rect-rect.ensures.value c.loop-b.invariant.from c.requires.coeffs in
    omega (arith, room)

pub loop-b-preserved : goal.loop-b-preserved
loop-b-preserved c =
    let plan = c.args.parts.now.plan in
    let p = parameters_of plan in
    let n = c.nesting_of-nesting in
    let r = c.rect-rect.result in
    let rows = c.rows_from-rows in
    let stride = c.padded-width.result.0 in
    let cells = nested_in p c.args.c (padded_width p c.args.c) c.args.cells.now in
    let stands : (x row : ℕ) → r.x ≤ x → x < r.x + r.width → row < r.height → turned_row p c.args.c x (r.y + row) ≡ rows.result.first + row * rows.result.step =
    λ x row from to below.
    part_row p c.args.c c.loop-b.b c.args.parts.now.slice (omega arith) plan.some_levels c.requires.grid.none_across (some_across plan.slices_x plan.slices_y plan.slices) c.args.parts.now.in_plan r c.rect-rect.ensures.value x row from to below
    ∙ sym (rows_told n.result.levels n.result.h p.depth (lowest_height p c.args.c) c.loop-b.b r.y rows.result.first rows.result.step row n.ensures.levels n.ensures.h rows.ensures.first rows.ensures.step) in
    record {
      from = next_before p c.args.c c.args.parts.now.slice cells c.loop-b.b c.loop-b.from _ r (omega arith) c.rect-rect.ensures.value c.loop-b.invariant.from (omega arith);
      copied = rect_copied p c.args.c c.args.parts.now.slice cells c.loop-b.b c.loop-b.from _ r c.loop-b.coeffs c.copy_rect.new.coeffs (omega arith) c.rect-rect.ensures.value c.loop-b.invariant.from (omega arith)
          (λ j h.
          rect_numbers c.args.cells.now stride c.loop-b.from rows.result.first rows.result.step r (turned_row p c.args.c) c.copy_rect.new.coeffs (omega (arith, c.rect-rect.ensures.right, c.padded-width.ensures.width)) stands c.copy_rect.ensures.on j h
          ∙ ap (λ wide. number_at_place (nested_in p c.args.c wide c.args.cells.now) (place_in r j)) c.padded-width.ensures.width) c.copy_rect.ensures.off c.loop-b.invariant.copied;
    }

pub returns : goal.returns
returns c =
    let p = parameters_of c.args.parts.now.plan in
    all_copied p c.args.c c.args.parts.now.slice (nested_in p c.args.c (padded_width p c.args.c) c.args.cells.now) c.loop-b.b c.loop-b.from c.loop-b.coeffs (omega arith) c.loop-b.invariant.from (omega (arith, c.loop-b.auto.coeffs, c.requires.coeffs)) c.loop-b.invariant.copied

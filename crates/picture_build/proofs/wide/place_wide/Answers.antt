use Rattle.std.proofs.Common.{arith, refl, sym, ◌∙◌, length, ◌+◌}
use Rattle.vc_types.specs.Lifting.{line_of}
use Rattle.vc_types.specs.TransformParameters.{parameters_of}
use Rattle.vc_types.proofs.SliceRectangles.{coefficients_before-none}
use Rattle.picture_build.proofs.RowsWithin.{few_cells, rows_within}
use Rattle.picture_build.proofs.PlacedNumbers.{subband_within, from_more, subband_stands, subband_stays, all_stand}
use Rattle.picture_build.proofs.wide.place_wide.Goals as goal

pub loop-b-init : goal.loop-b-init
loop-b-init c = record { from = sym (coefficients_before-none (parameters_of c.args.parts.now.plan) c.args.c c.args.parts.now.slice); on = λ i h. absurd (omega arith); off = λ k none. refl; length = refl }

pub place_wide_rect-requires-clause-from : goal.place_wide_rect-requires-clause-from
place_wide_rect-requires-clause-from c =
    let within = subband_within c.args.parts.now c.args.c c.loop-b.b c.loop-b.from c.rect-rect.result (omega arith) c.rect-rect.ensures.value c.loop-b.invariant.from in
    omega (arith, within, c.requires.count)

pub overflow_add-from : goal.overflow_add-from
overflow_add-from c =
    let within = subband_within c.args.parts.now c.args.c c.loop-b.b c.loop-b.from c.rect-rect.result (omega arith) c.rect-rect.ensures.value c.loop-b.invariant.from in
    omega (arith, within, c.requires.count)

pub loop-b-preserved : goal.loop-b-preserved
loop-b-preserved c =
    let parts = c.args.parts.now in
    let coeffs = line_of c.args.coeffs.now in
    let new = c.place_wide_rect.new.cells in
    record {
      from = from_more parts c.args.c c.loop-b.b c.loop-b.from c.rect-rect.result (omega arith) c.rect-rect.ensures.value c.loop-b.invariant.from;
      on = subband_stands parts c.args.c c.loop-b.b c.loop-b.from c.rect-rect.result (omega arith) c.rect-rect.ensures.value c.loop-b.invariant.from c.padded-width.result.0 c.padded-width.ensures.width coeffs c.loop-b.cells new c.place_wide_rect.ensures.on c.place_wide_rect.ensures.off c.loop-b.invariant.on;
      off = subband_stays parts c.args.c c.loop-b.b c.loop-b.from c.rect-rect.result (omega arith) c.rect-rect.ensures.value c.loop-b.invariant.from c.padded-width.result.0 c.padded-width.ensures.width coeffs c.loop-b.cells new c.place_wide_rect.ensures.on c.place_wide_rect.ensures.off c.args.cells.now c.loop-b.invariant.off;
      length = c.place_wide_rect.ensures.length ∙ c.loop-b.invariant.length;
    }

pub returns-clause-on : goal.returns-clause-on
returns-clause-on c = all_stand c.args.parts.now c.args.c c.loop-b.b c.loop-b.from (line_of c.args.coeffs.now) c.loop-b.cells (omega arith) c.loop-b.invariant.from c.loop-b.invariant.on

pub place_wide_rect-requires-clause-cells : goal.place_wide_rect-requires-clause-cells
place_wide_rect-requires-clause-cells c =
    let r = c.rect-rect.result in
    rows_within (r.y + r.height) c.padded-width.result.0 _ _ (length c.args.cells.now) (length c.loop-b.cells)
    c.rect-rect.ensures.bottom c.padded-width.ensures.width c.requires.cells c.loop-b.invariant.length

pub overflow_mul-from : goal.overflow_mul-from
overflow_mul-from c =
    let r = c.rect-rect.result in
    let few = few_cells r.x r.y r.width r.height c.rect-rect.ensures.range in
    omega (arith, few)

pub returns-clause-off : goal.returns-clause-off
returns-clause-off c = c.loop-b.invariant.off

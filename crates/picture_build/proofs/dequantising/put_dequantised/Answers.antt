use Rattle.std.proofs.Common.{arith, ◌≡◌, ◌<◌, ◌≤◌, ℕ, unsigned_abs, refl, sym, ◌∙◌, ◌+◌, ◌-◌, slice_index_or, length}
use Rattle.vc_types.specs.Lifting.{line_of}
use Rattle.vc_types.specs.Subbands.{area}
use Rattle.vc_types.specs.TransformParameters.{parameters_of}
use Rattle.vc_types.proofs.SliceRectangles.{coefficients_before-none, coefficients_before-all}
use Rattle.vc_slice.proofs.DequantisedBlocks.{coefficient_in, narrow_more}
use Rattle.picture_build.proofs.RowsWithin.{few_cells, rows_within}
use Rattle.picture_build.proofs.PlacedNumbers.{subband_within, from_more, subband_stands, subband_stays, all_stand}
use Rattle.vc_slice.specs.Bands.{numbered_in}
use Rattle.picture_build.proofs.dequantising.put_dequantised.Goals as goal

pub loop-b-init : goal.loop-b-init
loop-b-init c = record {
  from = sym (coefficients_before-none (parameters_of c.args.bands.now.parts.now.plan) c.args.c c.args.bands.now.parts.now.slice);
  on = λ i h. absurd (omega arith);
  narrow = λ i h. absurd (omega arith);
  off = λ k none. refl;
  length = refl;
}

pub dequantise_rect-requires-clause-cells : goal.dequantise_rect-requires-clause-cells
dequantise_rect-requires-clause-cells c =
    let r = c.rect-rect.result in
    rows_within (r.y + r.height) c.padded-width.result.0 _ _ (length c.args.cells.now) (length c.loop-b.cells)
    c.rect-rect.ensures.bottom c.padded-width.ensures.width c.requires.cells c.loop-b.invariant.length

pub dequantise_rect-requires-clause-from : goal.dequantise_rect-requires-clause-from
dequantise_rect-requires-clause-from c =
    let within = subband_within c.args.bands.now.parts.now c.args.c c.loop-b.b c.loop-b.from c.rect-rect.result (omega arith) c.rect-rect.ensures.value c.loop-b.invariant.from in
    omega (arith, within, c.requires.count)

pub dequantise_rect-requires-clause-small : goal.dequantise_rect-requires-clause-small
dequantise_rect-requires-clause-small c = λ j h.
    let within = subband_within c.args.bands.now.parts.now c.args.c c.loop-b.b c.loop-b.from c.rect-rect.result (omega arith) c.rect-rect.ensures.value c.loop-b.invariant.from in
    rw (c.lowered-quantiser.ensures.greatest, c.in-Some.ensures.same.1) (c.requires.small (c.loop-b.from + j) (omega (arith, within)))

pub overflow_mul-from : goal.overflow_mul-from
overflow_mul-from c =
    let r = c.rect-rect.result in
    let few = few_cells r.x r.y r.width r.height c.rect-rect.ensures.range in
    omega (arith, few)

pub overflow_add-from : goal.overflow_add-from
overflow_add-from c =
    let within = subband_within c.args.bands.now.parts.now c.args.c c.loop-b.b c.loop-b.from c.rect-rect.result (omega arith) c.rect-rect.ensures.value c.loop-b.invariant.from in
    omega (arith, within, c.requires.count)

pub loop-b-preserved : goal.loop-b-preserved
loop-b-preserved c =
    let bands = c.args.bands.now in
    let parts = bands.parts.now in
    let numbers = c.args.numbers.now in
    let coeffs = numbered_in bands c.args.c numbers in
    let r = c.rect-rect.result in
    let new = c.dequantise_rect.new.cells in
    let q = c.lowered-quantiser.result in
    let own : q.index ≡ bands.index - slice_index_or parts.plan.matrix c.loop-b.b 0 =
    omega (arith, c.lowered-quantiser.ensures.index, c.in-Some.ensures.same.0, c.matrix_entry.ensures) in
    let within = subband_within parts c.args.c c.loop-b.b c.loop-b.from r (omega arith) c.rect-rect.ensures.value c.loop-b.invariant.from in
    let small : (j : ℕ) → j < area r → unsigned_abs (line_of numbers (c.loop-b.from + j)) ≤ q.greatest =
    λ j h. rw (c.lowered-quantiser.ensures.greatest, c.in-Some.ensures.same.1) (c.requires.small (c.loop-b.from + j) (omega (arith, within))) in
    let here = coefficient_in bands c.args.c numbers c.loop-b.b c.loop-b.from q.index r (omega arith) c.rect-rect.ensures.value c.loop-b.invariant.from own in
    let on = λ (j : ℕ) (h : j < area r). c.dequantise_rect.ensures.on j h ∙ here j h in
    record {
      from = from_more parts c.args.c c.loop-b.b c.loop-b.from r (omega arith) c.rect-rect.ensures.value c.loop-b.invariant.from;
      on = subband_stands parts c.args.c c.loop-b.b c.loop-b.from r (omega arith) c.rect-rect.ensures.value c.loop-b.invariant.from c.padded-width.result.0 c.padded-width.ensures.width coeffs c.loop-b.cells new on c.dequantise_rect.ensures.off c.loop-b.invariant.on;
      narrow = narrow_more bands c.args.c numbers c.loop-b.b c.loop-b.from q.index r (omega arith) c.rect-rect.ensures.value c.loop-b.invariant.from own q.greatest q.is_narrow small c.loop-b.invariant.narrow;
      off = subband_stays parts c.args.c c.loop-b.b c.loop-b.from r (omega arith) c.rect-rect.ensures.value c.loop-b.invariant.from c.padded-width.result.0 c.padded-width.ensures.width coeffs c.loop-b.cells new on c.dequantise_rect.ensures.off c.args.cells.now c.loop-b.invariant.off;
      length = c.dequantise_rect.ensures.length ∙ c.loop-b.invariant.length;
    }

pub returns-clause-all : goal.returns-clause-all
returns-clause-all c =
    let bands = c.args.bands.now in
    let all = coefficients_before-all (parameters_of bands.parts.now.plan) c.args.c bands.parts.now.slice c.loop-b.b (omega arith) in
    record {
      on = all_stand bands.parts.now c.args.c c.loop-b.b c.loop-b.from (numbered_in bands c.args.c c.args.numbers.now) c.loop-b.cells (omega arith) c.loop-b.invariant.from c.loop-b.invariant.on;
      narrow = λ i h. c.loop-b.invariant.narrow i (omega (arith, h, all, c.loop-b.invariant.from));
      only = record { length = c.loop-b.invariant.length; others = c.loop-b.invariant.off };
    }

pub returns-clause-only : goal.returns-clause-only
returns-clause-only c = record { length = c.loop-b.invariant.length; others = c.loop-b.invariant.off }

pub returns-in_default-clause-only : goal.returns-in_default-clause-only
returns-in_default-clause-only c = record { length = refl; others = λ k none. refl }

use Rattle.std.proofs.Common.{arith, ◌<◌, ◌^◌, ℕ, unsigned_abs, refl, sym, subst, ◌∙◌, ◌+◌, length}
use Rattle.vc_types.specs.Lifting.{line_of}
use Rattle.vc_types.specs.Subbands.{area}
use Rattle.vc_types.specs.TransformParameters.{parameters_of}
use Rattle.vc_types.proofs.SliceRectangles.{coefficients_before-none, coefficients_before-all}
use Rattle.vc_slice.specs.Bands.{numbered_in}
use Rattle.vc_slice.proofs.DequantisedBlocks.{coefficient_in}
use Rattle.picture_build.proofs.RowsWithin.{few_cells, rows_within}
use Rattle.picture_build.proofs.PlacedNumbers.{subband_within, from_more, subband_stands, subband_stays, all_stand}
use Rattle.picture_build.proofs.WideNumbers.{below_greatest, small_more}
use Rattle.picture_build.proofs.wide.put_wide_numbers.Goals as goal

pub loop-b-init : goal.loop-b-init
loop-b-init c = record {
  from = sym (coefficients_before-none (parameters_of c.args.bands.now.parts.now.plan) c.args.c c.args.bands.now.parts.now.slice);
  on = λ i h. absurd (omega arith);
  small = λ i h. absurd (omega arith);
  off = λ k none. refl;
  length = refl;
}

pub put_wide_rect-requires-clause-cells : goal.put_wide_rect-requires-clause-cells
put_wide_rect-requires-clause-cells c =
    let r = c.rect-rect.result in
    rows_within (r.y + r.height) c.padded-width.result.0 _ _ (length c.args.cells.now) (length c.loop-b.cells)
    c.rect-rect.ensures.bottom c.padded-width.ensures.width c.requires.cells c.loop-b.invariant.length

pub put_wide_rect-requires-clause-from : goal.put_wide_rect-requires-clause-from
put_wide_rect-requires-clause-from c =
    let within = subband_within c.args.bands.now.parts.now c.args.c c.loop-b.b c.loop-b.from c.rect-rect.result (omega arith) c.rect-rect.ensures.value c.loop-b.invariant.from in
    omega (arith, within, c.requires.count)

pub put_wide_rect-requires-clause-small : goal.put_wide_rect-requires-clause-small
put_wide_rect-requires-clause-small c = λ j h.
    let within = subband_within c.args.bands.now.parts.now c.args.c c.loop-b.b c.loop-b.from c.rect-rect.result (omega arith) c.rect-rect.ensures.value c.loop-b.invariant.from in
    c.requires.small (c.loop-b.from + j) (omega (arith, within))

pub overflow_mul-from : goal.overflow_mul-from
overflow_mul-from c =
    let r = c.rect-rect.result in
    let few = few_cells r.x r.y r.width r.height c.rect-rect.ensures.range in
    omega (arith, few)

pub overflow_add-from : goal.overflow_add-from
overflow_add-from c =
    let within = subband_within c.args.bands.now.parts.now c.args.c c.loop-b.b c.loop-b.from c.rect-rect.result (omega arith) c.rect-rect.ensures.value c.loop-b.invariant.from in
    omega (arith, within, c.requires.count)

pub loop-b-preserved : goal.loop-b-preserved
loop-b-preserved c =
    let bands = c.args.bands.now in
    let parts = bands.parts.now in
    let numbers = c.args.numbers.now in
    let coeffs = numbered_in bands c.args.c numbers in
    let r = c.rect-rect.result in
    let new = c.put_wide_rect.new.cells in
    let q = c.quantiser-quantiser.result.index in
    let own = c.quantiser-quantiser.ensures in
    let within = subband_within parts c.args.c c.loop-b.b c.loop-b.from r (omega arith) c.rect-rect.ensures.value c.loop-b.invariant.from in
    let here = coefficient_in bands c.args.c numbers c.loop-b.b c.loop-b.from q r (omega arith) c.rect-rect.ensures.value c.loop-b.invariant.from own in
    let on = λ (j : ℕ) (h : j < area r). c.put_wide_rect.ensures.on j h ∙ here j h in
    let small = λ (j : ℕ) (h : j < area r). subst (λ z. unsigned_abs z < 2 ^ 60) (here j h)
    (below_greatest (line_of numbers (c.loop-b.from + j)) c.args.greatest q (2 ^ 60)
    (c.requires.small (c.loop-b.from + j) (omega (arith, within))) (c.is_small.ensures c.if-not-is_small.false)) in
    record {
      from = from_more parts c.args.c c.loop-b.b c.loop-b.from r (omega arith) c.rect-rect.ensures.value c.loop-b.invariant.from;
      on = subband_stands parts c.args.c c.loop-b.b c.loop-b.from r (omega arith) c.rect-rect.ensures.value c.loop-b.invariant.from c.padded-width.result.0 c.padded-width.ensures.width coeffs c.loop-b.cells new on c.put_wide_rect.ensures.off c.loop-b.invariant.on;
      small = small_more (2 ^ 60) c.loop-b.from (area r) coeffs small c.loop-b.invariant.small;
      off = subband_stays parts c.args.c c.loop-b.b c.loop-b.from r (omega arith) c.rect-rect.ensures.value c.loop-b.invariant.from c.padded-width.result.0 c.padded-width.ensures.width coeffs c.loop-b.cells new on c.put_wide_rect.ensures.off c.args.cells.now c.loop-b.invariant.off;
      length = c.put_wide_rect.ensures.length ∙ c.loop-b.invariant.length;
    }

pub returns-clause-all : goal.returns-clause-all
returns-clause-all c =
    let bands = c.args.bands.now in
    let all = coefficients_before-all (parameters_of bands.parts.now.plan) c.args.c bands.parts.now.slice c.loop-b.b (omega arith) in
    record {
      on = all_stand bands.parts.now c.args.c c.loop-b.b c.loop-b.from (numbered_in bands c.args.c c.args.numbers.now) c.loop-b.cells (omega arith) c.loop-b.invariant.from c.loop-b.invariant.on;
      small = λ i h. c.loop-b.invariant.small i (omega (arith, h, all, c.loop-b.invariant.from));
      only = record { length = c.loop-b.invariant.length; others = c.loop-b.invariant.off };
    }

pub returns-clause-only : goal.returns-clause-only
returns-clause-only c = record { length = c.loop-b.invariant.length; others = c.loop-b.invariant.off }

pub returns-then-not-is_small-clause-only : goal.returns-then-not-is_small-clause-only
returns-then-not-is_small-clause-only c = record { length = c.loop-b.invariant.length; others = c.loop-b.invariant.off }

use Rattle.std.proofs.Common.{arith, ◌≡◌, ◌<◌, ◌≤◌, ℕ, unsigned_abs, refl, sym, ◌∙◌, ◌+◌, ◌-◌, slice_index_or}
use Rattle.vc_types.specs.Lifting.{line_of}
use Rattle.vc_types.specs.Subbands.{area, place_in}
use Rattle.vc_types.specs.TransformParameters.{parameters_of}
use Rattle.vc_types.proofs.SliceRectangles.{coefficients_before-none}
use Rattle.vc_geometry.specs.Runs.{cell_of}
use Rattle.vc_geometry.proofs.RunWalk.{run_before-none}
use Rattle.vc_slice.specs.Bands.{coefficient_count, numbered_in}
use Rattle.vc_slice.specs.RunSlices.{place_in_strip}
use Rattle.vc_slice.proofs.DequantisedBlocks.{coefficient_in, narrow_more}
use Rattle.vc_slice.proofs.FilledParts.{part_stands, part_stays}
use Rattle.vc_slice.proofs.StripPlaces.{same_bands, strip_apart, part_in, part_within, from_more, base_more, base_within, there, all_before}
use Rattle.vc_slice.proofs.strip_parts.strip_numbers.Goals as goal

pub loop-b-init : goal.loop-b-init
loop-b-init c = record {
  from = sym (coefficients_before-none (parameters_of c.args.bands.now.parts.now.plan) c.args.c c.args.bands.now.parts.now.slice);
  base = sym (run_before-none (parameters_of c.args.run.now.plan) c.args.c c.args.run.now.first c.args.run.now.count);
  on = λ i h. absurd (omega arith);
  narrow = λ i h. absurd (omega arith);
  off = λ k none. refl;
  length = refl;
}

pub rect-part-requires : goal.rect-part-requires
rect-part-requires c = record { number = omega (arith, same_bands c.args.run.now c.args.bands.now.parts.now c.requires.own c.args.c) }

pub matrix_entry-requires : goal.matrix_entry-requires
matrix_entry-requires c = omega (arith, same_bands c.args.run.now c.args.bands.now.parts.now c.requires.own c.args.c)

pub put_part-requires-clause-across : goal.put_part-requires-clause-across
put_part-requires-clause-across c =
    let is = part_in c.args.run.now c.args.bands.now.parts.now c.requires.own c.args.c c.loop-b.b c.loop-b.from c.loop-b.base c.rect-part.result c.rect-whole.result (omega arith) c.rect-part.ensures.value c.rect-whole.ensures.value c.loop-b.invariant.from c.loop-b.invariant.base in
    (is.left, is.right)

pub put_part-requires-clause-down : goal.put_part-requires-clause-down
put_part-requires-clause-down c =
    let is = part_in c.args.run.now c.args.bands.now.parts.now c.requires.own c.args.c c.loop-b.b c.loop-b.from c.loop-b.base c.rect-part.result c.rect-whole.result (omega arith) c.rect-part.ensures.value c.rect-whole.ensures.value c.loop-b.invariant.from c.loop-b.invariant.base in
    (is.top, is.bottom)

pub put_part-requires-clause-base : goal.put_part-requires-clause-base
put_part-requires-clause-base c =
    let within = base_within c.args.run.now c.args.bands.now.parts.now c.requires.own c.args.c c.loop-b.b c.loop-b.from c.loop-b.base c.rect-part.result c.rect-whole.result (omega arith) c.rect-part.ensures.value c.rect-whole.ensures.value c.loop-b.invariant.from c.loop-b.invariant.base in
    omega (arith, within, c.requires.strip, c.loop-b.invariant.length)

pub put_part-requires-clause-from : goal.put_part-requires-clause-from
put_part-requires-clause-from c =
    let within = part_within c.args.run.now c.args.bands.now.parts.now c.requires.own c.args.c c.loop-b.b c.loop-b.from c.loop-b.base c.rect-part.result c.rect-whole.result (omega arith) c.rect-part.ensures.value c.rect-whole.ensures.value c.loop-b.invariant.from c.loop-b.invariant.base in
    omega (arith, within, c.requires.count)

pub put_part-requires-clause-small : goal.put_part-requires-clause-small
put_part-requires-clause-small c = λ j h.
    let within = part_within c.args.run.now c.args.bands.now.parts.now c.requires.own c.args.c c.loop-b.b c.loop-b.from c.loop-b.base c.rect-part.result c.rect-whole.result (omega arith) c.rect-part.ensures.value c.rect-whole.ensures.value c.loop-b.invariant.from c.loop-b.invariant.base in
    rw (c.lowered-quantiser.ensures.greatest, c.in-Some.ensures.same.1) (c.requires.small (c.loop-b.from + j) (omega (arith, within)))

pub overflow_add-from : goal.overflow_add-from
overflow_add-from c =
    let within = part_within c.args.run.now c.args.bands.now.parts.now c.requires.own c.args.c c.loop-b.b c.loop-b.from c.loop-b.base c.rect-part.result c.rect-whole.result (omega arith) c.rect-part.ensures.value c.rect-whole.ensures.value c.loop-b.invariant.from c.loop-b.invariant.base in
    omega (arith, within, c.requires.count)

pub overflow_add-base : goal.overflow_add-base
overflow_add-base c =
    let within = base_within c.args.run.now c.args.bands.now.parts.now c.requires.own c.args.c c.loop-b.b c.loop-b.from c.loop-b.base c.rect-part.result c.rect-whole.result (omega arith) c.rect-part.ensures.value c.rect-whole.ensures.value c.loop-b.invariant.from c.loop-b.invariant.base in
    omega (arith, within, c.requires.strip, c.loop-b.invariant.length)

pub loop-b-preserved : goal.loop-b-preserved
loop-b-preserved c =
    let run = c.args.run.now in
    let bands = c.args.bands.now in
    let parts = bands.parts.now in
    let numbers = c.args.numbers.now in
    let coeffs = numbered_in bands c.args.c numbers in
    let b = c.loop-b.b in
    let from = c.loop-b.from in
    let base = c.loop-b.base in
    let part = c.rect-part.result in
    let whole = c.rect-whole.result in
    let new = c.put_part.new.strip in
    let q = c.lowered-quantiser.result in
    let own : q.index ≡ bands.index - slice_index_or parts.plan.matrix b 0 =
    omega (arith, c.lowered-quantiser.ensures.index, c.in-Some.ensures.same.0, c.matrix_entry.ensures) in
    let bands_alike = same_bands run parts c.requires.own c.args.c in
    let within = part_within run parts c.requires.own c.args.c b from base part whole (omega arith) c.rect-part.ensures.value c.rect-whole.ensures.value c.loop-b.invariant.from c.loop-b.invariant.base in
    let cells = there run parts c.requires.own c.args.c b from base part whole (omega arith) c.rect-part.ensures.value c.rect-whole.ensures.value c.loop-b.invariant.from c.loop-b.invariant.base in
    let small : (j : ℕ) → j < area part → unsigned_abs (line_of numbers (from + j)) ≤ q.greatest =
    λ j h. rw (c.lowered-quantiser.ensures.greatest, c.in-Some.ensures.same.1) (c.requires.small (from + j) (omega (arith, within))) in
    let here = coefficient_in bands c.args.c numbers b from q.index part (omega (arith, bands_alike)) c.rect-part.ensures.value c.loop-b.invariant.from own in
    let on = λ (j : ℕ) (h : j < area part). c.put_part.ensures.on j h ∙ here j h in
    let cell = λ (j : ℕ). base + cell_of whole (place_in part j) in
    record {
      from = from_more run parts c.requires.own c.args.c b from base part whole (omega arith) c.rect-part.ensures.value c.rect-whole.ensures.value c.loop-b.invariant.from c.loop-b.invariant.base;
      base = base_more run parts c.requires.own c.args.c b from base part whole (omega arith) c.rect-part.ensures.value c.rect-whole.ensures.value c.loop-b.invariant.from c.loop-b.invariant.base;
      on = part_stands (coefficient_count parts c.args.c) (place_in_strip run parts c.args.c) (strip_apart run parts c.requires.own c.args.c) from (area part) within cell cells coeffs c.loop-b.strip new on c.put_part.ensures.off c.loop-b.invariant.on;
      narrow = narrow_more bands c.args.c numbers b from q.index part (omega (arith, bands_alike)) c.rect-part.ensures.value c.loop-b.invariant.from own q.greatest q.is_narrow small c.loop-b.invariant.narrow;
      off = part_stays (coefficient_count parts c.args.c) (place_in_strip run parts c.args.c) (strip_apart run parts c.requires.own c.args.c) from (area part) within cell cells coeffs c.loop-b.strip new on c.put_part.ensures.off c.args.strip.now c.loop-b.invariant.off;
      length = c.put_part.ensures.length ∙ c.loop-b.invariant.length;
    }

pub returns-clause-all : goal.returns-clause-all
returns-clause-all c =
    let all = all_before c.args.run.now c.args.bands.now.parts.now c.requires.own c.args.c c.loop-b.b c.loop-b.from (omega arith) c.loop-b.invariant.from in
    record {
      on = λ i h. c.loop-b.invariant.on i (omega (arith, all, h));
      narrow = λ i h. c.loop-b.invariant.narrow i (omega (arith, all, h));
      only = record { length = c.loop-b.invariant.length; others = c.loop-b.invariant.off };
    }

pub returns-clause-only : goal.returns-clause-only
returns-clause-only c = record { length = c.loop-b.invariant.length; others = c.loop-b.invariant.off }

pub returns-in_default-clause-only : goal.returns-in_default-clause-only
returns-in_default-clause-only c = record { length = refl; others = λ k none. refl }

use borrow.Rule.Slice.PartMut.{put_mid}
use Rattle.std.proofs.Common.{◌≡◌, ◌+◌, ◌-◌, ◌<◌, ◌≤◌, ℕ, length, unsigned_abs, pos, rules, arith, sym, ap, ◌∙◌, inl, inr}
use Rattle.std.specs.Prelude.{slice_index_or}
use Rattle.std.proofs.lemmas.Bool.{cases_lt}
use Rattle.std.proofs.lemmas.List.Elements.{All-get_or}
use Rattle.vc_types.specs.declared.video.Component.{Component}
use Rattle.vc_types.specs.OfPlan.{band_count}
use Rattle.vc_types.specs.Quantisation.{quantised}
use Rattle.vc_types.specs.Subbands.{area}
use Rattle.vc_types.specs.TransformParameters.{parameters_of}
use Rattle.vc_types.proofs.SliceRectangles.{coefficients_before, coefficients_before-none, coefficients_before-all}
use Rattle.vc_slice.specs.Bands.{coefficient_count, rectangle, quantisers_of}
use Rattle.vc_slice.specs.declared.bands.SliceBands.{SliceBands}
use Rattle.vc_slice.proofs.NarrowRuns.{run_more, run_within, run_done, alike_more}
use Rattle.vc_slice.proofs.RunsInPlace.{of_run, put_back_from, put_back_off}
use Rattle.vc_slice.proofs.narrow_codes.quantise.Goals as goal

-- a subband's coefficients
module _ (bands : SliceBands) (c : Component) (b from n : ℕ) (h : b < band_count bands.parts.now.plan)
    (at : from ≡ coefficients_before (parameters_of bands.parts.now.plan) c bands.parts.now.slice b) (count : n ≡ area (rectangle bands.parts.now c b)) where
  ends_at : from + n ≡ coefficients_before (parameters_of bands.parts.now.plan) c bands.parts.now.slice (b + 1)
  ends_at = run_more (parameters_of bands.parts.now.plan) c bands.parts.now.slice bands.index b from n h at count

  ends_within : from + n ≤ coefficient_count bands.parts.now c
  ends_within = run_within (parameters_of bands.parts.now.plan) c bands.parts.now.slice bands.index b from n h at count

  stays_alike : (start : ℕ) → ((i : ℕ) → start ≤ i → i < from → (b < band_count bands.parts.now.plan) × (slice_index_or (quantisers_of bands c) i 0 ≡ bands.index - slice_index_or bands.parts.now.plan.matrix b 0))
      → (i : ℕ) → start ≤ i → i < from + n → slice_index_or (quantisers_of bands c) i 0 ≡ bands.index - slice_index_or bands.parts.now.plan.matrix b 0
  stays_alike start alike = alike_more (parameters_of bands.parts.now.plan) c bands.parts.now.slice bands.index b from n h at count start (λ i low below. (alike i low below).1)

pub loop-b-init : goal.loop-b-init
loop-b-init c = grind (arith, coefficients_before-none)

pub overflow_add-to : goal.overflow_add-to
overflow_add-to c =
    let within = ends_within c.args.bands.now c.args.c c.loop-b.b c.loop-b.to c.area.result (omega arith) c.loop-b.invariant.to c.area.ensures.value in
    omega (arith, within)

pub loop-b-preserved-then-is_next_alike : goal.loop-b-preserved-then-is_next_alike
loop-b-preserved-then-is_next_alike c =
    let bands = c.args.bands.now in
    let next = c.is_next_alike.ensures.0 c.if-is_next_alike.true in
    record {
      order = omega arith;
      to = ends_at bands c.args.c c.loop-b.b c.loop-b.to c.area.result (omega arith) c.loop-b.invariant.to c.area.ensures.value;
      length = c.loop-b.invariant.length;
      alike = λ i low below. (
        next.0,
        stays_alike bands c.args.c c.loop-b.b c.loop-b.to c.area.result (omega arith) c.loop-b.invariant.to c.area.ensures.value c.loop-b.from c.loop-b.invariant.alike i low below
            ∙ ap (λ (n : ℕ). bands.index - n) (sym next.1),
      );
      done = c.loop-b.invariant.done;
    }

pub offset_bounds-coefficients-from : goal.offset_bounds-coefficients-from
offset_bounds-coefficients-from c =
    let within = ends_within c.args.bands.now c.args.c c.loop-b.b c.loop-b.to c.area.result (omega arith) c.loop-b.invariant.to c.area.ensures.value in
    omega (arith, within)

pub slice_bounds-quant_to-end : goal.slice_bounds-quant_to-end
slice_bounds-quant_to-end c =
    let within = ends_within c.args.bands.now c.args.c c.loop-b.b c.loop-b.to c.area.result (omega arith) c.loop-b.invariant.to c.area.ensures.value in
    let fits : c.loop-b.to + c.area.result ≤ length c.args.coefficients.now = omega (arith, within) in
    search rules

pub offset_bounds-numbers-from : goal.offset_bounds-numbers-from
offset_bounds-numbers-from c =
    let within = ends_within c.args.bands.now c.args.c c.loop-b.b c.loop-b.to c.area.result (omega arith) c.loop-b.invariant.to c.area.ensures.value in
    omega (arith, within)

pub slice_bounds-quant_to-end-in-loop-b : goal.slice_bounds-quant_to-end-in-loop-b
slice_bounds-quant_to-end-in-loop-b c =
    let within = ends_within c.args.bands.now c.args.c c.loop-b.b c.loop-b.to c.area.result (omega arith) c.loop-b.invariant.to c.area.ensures.value in
    let fits : c.loop-b.to + c.area.result ≤ length c.loop-b.numbers = omega (arith, within, c.loop-b.invariant.length) in
    search rules

pub quant_to-requires-clause-greatest : goal.quant_to-requires-clause-greatest
quant_to-requires-clause-greatest c =
    let within = ends_within c.args.bands.now c.args.c c.loop-b.b c.loop-b.to c.area.result (omega arith) c.loop-b.invariant.to c.area.ensures.value in
    of_run c.loop-b.from (c.loop-b.to + c.area.result) c.args.coefficients.now (omega arith, omega (arith, within))
    (λ z. unsigned_abs z ≤ c.greatest-greatest.result)
    (λ i low below. All-get_or (λ z. unsigned_abs z ≤ c.greatest-greatest.result) c.args.coefficients.now i (pos 0) (omega (arith, within)) c.greatest-greatest.ensures)

pub loop-b-preserved : goal.loop-b-preserved
loop-b-preserved c =
    let bands = c.args.bands.now in
    let from = c.loop-b.from in
    let to = c.loop-b.to + c.area.result in
    let old = c.loop-b.numbers in
    let new = c.quant_to.new.numbers in
    let index = c.quantiser-quantiser.result.index in
    let within = ends_within c.args.bands.now c.args.c c.loop-b.b c.loop-b.to c.area.result (omega arith) c.loop-b.invariant.to c.area.ensures.value in
    let there : (from ≤ to) × (to ≤ length c.args.coefficients.now) = (omega arith, omega (arith, within)) in
    let run : (from ≤ to) × (to ≤ length old) = (omega arith, omega (arith, within, c.loop-b.invariant.length)) in
    record {
      order = omega arith;
      to = ends_at bands c.args.c c.loop-b.b c.loop-b.to c.area.result (omega arith) c.loop-b.invariant.to c.area.ensures.value;
      length = search rules;
      alike = λ i low below. absurd (omega arith);
      done = run_done from to (quantisers_of bands c.args.c) c.args.coefficients.now old (put_mid from (to - from) old new) quantised index
          (λ i low below. stays_alike bands c.args.c c.loop-b.b c.loop-b.to c.area.result (omega arith) c.loop-b.invariant.to c.area.ensures.value from c.loop-b.invariant.alike i low below ∙ sym c.quantiser-quantiser.ensures)
          c.loop-b.invariant.done
          (put_back_from from to old run new c.quant_to.auto.numbers quantised index c.args.coefficients.now there c.quant_to.ensures)
          (put_back_off from to old run new c.quant_to.auto.numbers);
    }

pub returns : goal.returns
returns c = λ i h. elim (cases_lt i c.loop-b.from) [
  | inl before ↦ c.loop-b.invariant.done i before
  | inr past ↦ (let below : i < c.loop-b.to = omega (arith, coefficients_before-all) in absurd (omega (arith, (c.loop-b.invariant.alike i past below).0)))
]

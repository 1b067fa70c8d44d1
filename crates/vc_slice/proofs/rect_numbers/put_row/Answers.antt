use Rattle.std.proofs.Common.{◌+◌, w32, FitsSigned, slice_index_or, pos, arith, rules, ◌∙◌}
use Rattle.std.proofs.lemmas.Int.{to_z-of_z}
use Rattle.vc_types.specs.Lifting.{line_of}
use Rattle.vc_types.specs.Quantisation.{dequantised}
use Rattle.vc_slice.proofs.SetCells.{coefficient_read, set_more, set_next, set_off, small_read}
use Rattle.vc_slice.proofs.rect_numbers.put_row.Goals as goal

pub dequant-requires : goal.dequant-requires
dequant-requires c =
    let numbers = c.args.quantised.numbers.now in
    let fits : FitsSigned w32 (slice_index_or numbers (c.args.from + c.loop-x.x) (pos 0)) = search rules in
    small_read _ _ fits (c.requires.small c.loop-x.x c.loop-x-test.true)

pub dequant-requires-in-loop-x-else-width-le16 : goal.dequant-requires-in-loop-x-else-width-le16
dequant-requires-in-loop-x-else-width-le16 c =
    let numbers = c.args.quantised.numbers.now in
    let x = c.loop-x-else-width-le16.x in
    let fits : FitsSigned w32 (slice_index_or numbers (c.args.from + x) (pos 0)) = search rules in
    small_read _ _ fits (c.requires.small x c.loop-x-else-width-le16-test.true)

pub loop-x-else-width-le16-preserved : goal.loop-x-else-width-le16-preserved
loop-x-else-width-le16-preserved c =
    let numbers = c.args.quantised.numbers.now in
    let index = c.args.quantised.quantiser.now.index in
    let x = c.loop-x-else-width-le16.x in
    let r = c.dequant-in-loop-x-else-width-le16 in
    let fits : FitsSigned w32 (slice_index_or numbers (c.args.from + x) (pos 0)) = search rules in
    let own : FitsSigned w32 r.result = search rules in
    record {
      on = set_more c.loop-x-else-width-le16.cells c.args.at x _ (λ i. dequantised (line_of numbers (c.args.from + i)) index)
          (omega arith) c.loop-x-else-width-le16.invariant.on
          (coefficient_read (slice_index_or numbers (c.args.from + x) (pos 0)) r.result index fits own r.ensures.value);
      off = λ i h. set_off c.loop-x-else-width-le16.cells c.args.at x _ c.args.width c.loop-x-else-width-le16-test.true i h
          ∙ c.loop-x-else-width-le16.invariant.off i h;
    }

pub loop-x-preserved : goal.loop-x-preserved
loop-x-preserved c =
    let numbers = c.args.quantised.numbers.now in
    let index = c.args.quantised.quantiser.now.index in
    let x = c.loop-x.x in
    let fits : FitsSigned w32 (slice_index_or numbers (c.args.from + x) (pos 0)) = search rules in
    let own : FitsSigned w32 c.dequant.result = search rules in
    record {
      read = set_next c.loop-x.few x _ (λ i. dequantised (line_of numbers (c.args.from + i)) index)
          (omega (arith, c.loop-x.invariant.long)) c.loop-x.invariant.read
          (coefficient_read (slice_index_or numbers (c.args.from + x) (pos 0)) c.dequant.result index fits own c.dequant.ensures.value);
      long = search rules;
    }

pub loop-x-then-width-le16-preserved : goal.loop-x-then-width-le16-preserved
loop-x-then-width-le16-preserved c =
    let numbers = c.args.quantised.numbers.now in
    let index = c.args.quantised.quantiser.now.index in
    let x = c.loop-x-then-width-le16.x in
    let fits : FitsSigned w32 (slice_index_or c.loop-x.few x (pos 0)) = search rules in
    record {
      on = set_more c.loop-x-then-width-le16.cells c.args.at x _ (λ i. dequantised (line_of numbers (c.args.from + i)) index)
          (omega arith) c.loop-x-then-width-le16.invariant.on
          (to_z-of_z w32 (slice_index_or c.loop-x.few x (pos 0)) fits ∙ c.loop-x.invariant.read x (omega arith));
      off = λ i h. set_off c.loop-x-then-width-le16.cells c.args.at x _ c.args.width c.loop-x-then-width-le16-test.true i h
          ∙ c.loop-x-then-width-le16.invariant.off i h;
    }

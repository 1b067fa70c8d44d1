use Rattle.std.proofs.Common.{◌+◌, ◌-◌, ◌<◌, refl, sym, ap, ◌∙◌, arith, slice_index_or}
use Rattle.vc_types.specs.Quantisation.{subband_count}
use Rattle.vc_types.specs.TransformParameters.{parameters_of}
use Rattle.vc_slice.specs.Falls.{block_from}
use Rattle.vc_slice.specs.Listed.{listed}
use Rattle.vc_slice.proofs.BlockCodes.{numbers_from, all_from, all_bits, none_from, enough, rest_from, subband_from, none_large-parts}
use Rattle.vc_slice.proofs.FallSums.{begins, ends, sum_falls}
use Rattle.vc_slice.proofs.falls.all_lens.Goals as goal

pub loop-b-init : goal.loop-b-init
loop-b-init c = grind (arith, all_from, begins, numbers_from, all_bits)

pub split_at-requires : goal.split_at-requires
split_at-requires c = enough (parameters_of c.args.parts.now.plan) c.args.parts.now.slice 0 c.args.c c.loop-b.b c.area.result (listed c.loop-b.rest) (omega arith) c.area.ensures.value (c.loop-b.invariant.rest 0)

pub add_subband-requires-clause-small : goal.add_subband-requires-clause-small
add_subband-requires-clause-small c = rw c.split_at.ensures.front (none_large-parts c.area.result (listed c.loop-b.rest) (c.loop-b.invariant.rest 0).small).0

pub loop-b-preserved : goal.loop-b-preserved
loop-b-preserved c =
    let p = parameters_of c.args.parts.now.plan in
    let before = c.loop-b.falls in
    let few : c.loop-b.b < subband_count c.args.parts.now.plan.depth_ho c.args.parts.now.plan.depth = omega arith in
    record {
      rest = λ q. rest_from p c.args.parts.now.slice q c.args.c c.loop-b.b c.area.result (listed c.loop-b.rest) (listed c.split_at.result.1) few c.area.ensures.value c.split_at.ensures.back (c.loop-b.invariant.rest q);
      count = omega (arith, c.add_subband.ensures.count, c.split_at.ensures.front_len, c.area.ensures.range, c.loop-b.invariant.count);
      room = c.add_subband.ensures.room;
      places = c.add_subband.ensures.places;
      bits = λ q within.
          let next = subband_from p c.args.parts.now.slice q c.args.c c.loop-b.b c.area.result (q - slice_index_or c.args.parts.now.plan.matrix c.loop-b.b 0) (listed c.loop-b.rest) (listed c.split_at.result.0) (listed c.split_at.result.1) few c.area.ensures.value refl c.split_at.ensures.front c.split_at.ensures.back (c.loop-b.invariant.rest q) in
          c.add_subband.ensures.bits q within (numbers_from p c.args.parts.now.slice q c.args.c (c.loop-b.b + 1) (listed c.split_at.result.1))
          ∙ ap (block_from q before.count before.bits before.kept) (sym next)
          ∙ c.loop-b.invariant.bits q within;
    }

pub returns-clause-value : goal.returns-clause-value
returns-clause-value c = grind (arith, none_from, ends, numbers_from)

pub returns-clause-range : goal.returns-clause-range
returns-clause-range c = λ q within. omega (arith, c.lens.ensures q within, sum_falls q c.loop-b.falls.bits, c.loop-b.invariant.room, c.loop-b.invariant.places q, c.loop-b.invariant.count)

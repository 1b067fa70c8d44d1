use Rattle.std.proofs.Common.{arith}
use Rattle.vc_types.specs.TransformParameters.{parameters_of}
use Rattle.vc_slice.specs.Listed.{listed}
use Rattle.vc_slice.proofs.BlockCodes.{numbers_from, all_from, all_bits, none_from, no_more_codes, enough, rest_from, subband_from, none_large-parts}
use Rattle.vc_slice.proofs.counting.block_len.Goals as goal

pub loop-b-init : goal.loop-b-init
loop-b-init c = grind (arith, all_from, all_bits)

pub split_at-requires : goal.split_at-requires
split_at-requires c = enough (parameters_of c.args.bands.now.parts.now.plan) c.args.bands.now.parts.now.slice c.args.bands.now.index c.args.c c.loop-b.b c.area.result (listed c.loop-b.rest) (omega arith) c.area.ensures.value c.loop-b.invariant.rest

pub loop-b-preserved : goal.loop-b-preserved
loop-b-preserved c = grind (arith, subband_from, rest_from, numbers_from)

pub returns-clause-value : goal.returns-clause-value
returns-clause-value c = grind (arith, none_from, no_more_codes)

pub count_subband-requires-clause-small : goal.count_subband-requires-clause-small
count_subband-requires-clause-small c = rw c.split_at.ensures.front (none_large-parts c.area.result (listed c.loop-b.rest) c.loop-b.invariant.rest.small).0

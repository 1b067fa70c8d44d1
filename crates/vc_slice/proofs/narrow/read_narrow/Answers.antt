use Rattle.std.proofs.Common.{arith, rules}
use Rattle.vc_types.specs.Slices.{block_coefficients}
use Rattle.vc_types.specs.Subbands.{slice_coefficient_count}
use Rattle.vc_types.specs.TransformParameters.{parameters_of}
use Rattle.vc_slice.proofs.NarrowRuns.{coefficient_of, none_large, length-block}
use Rattle.vc_slice.proofs.narrow.read_narrow.Goals as goal

pub returns-then-dequantise-clause-value : goal.returns-then-dequantise-clause-value
returns-then-dequantise-clause-value c = grind (arith, coefficient_of)

pub returns-then-dequantise-clause-sound : goal.returns-then-dequantise-clause-sound
returns-then-dequantise-clause-sound c =
    let p = parameters_of c.args.bands.now.parts.now.plan in
    none_large (block_coefficients p c.args.c c.args.bands.now.parts.now.slice c.args.bands.now.index c.args.block.now) c.dequantise.new.numbers (slice_coefficient_count p c.args.c c.args.bands.now.parts.now.slice)
    (length-block p c.args.c c.args.bands.now.parts.now.slice c.args.bands.now.index c.args.block.now) (returns-then-dequantise-clause-value c) (c.dequantise.ensures.narrow (search rules))

use Rattle.std.proofs.Common.{rules, ◌<◌, arith}
use Rattle.vc_types.specs.Quantisation.{subband_count}
use Rattle.vc_types.specs.Slices.{block_coefficients}
use Rattle.vc_types.specs.TransformParameters.{parameters_of}
use Rattle.vc_slice.proofs.BlockCoefficients.{none_read, subband_read, subband_large, all_read}
use Rattle.vc_slice.proofs.WideSlices.{large_behind}
use Rattle.vc_slice.proofs.component.read_component.Goals as goal

pub loop-b-init : goal.loop-b-init
loop-b-init c = grind (arith, none_read)

pub returns-in_err-read_subband-clause-large : goal.returns-in_err-read_subband-clause-large
returns-in_err-read_subband-clause-large c = λ e.
    let p = parameters_of c.args.bands.now.parts.now.plan in
    let few : c.loop-b.b < subband_count c.args.bands.now.parts.now.plan.depth_ho c.args.bands.now.parts.now.plan.depth = omega arith in
    large_behind c.args.coeffs.now.items (block_coefficients p c.args.c c.args.bands.now.parts.now.slice c.args.bands.now.index c.args.block.now) c.requires.sound
    (subband_large p c.args.c c.args.bands.now.parts.now.slice c.args.bands.now.index c.loop-b.coeffs.items _ c.loop-b.b c.area.result c.quantiser.result.index c.loop-b.bits few c.area.ensures.value c.quantiser.ensures c.loop-b.invariant.read (c.in_err-read_subband.ensures.large (search rules)))

pub loop-b-preserved : goal.loop-b-preserved
loop-b-preserved c = record {
  read = subband_read (parameters_of c.args.bands.now.parts.now.plan) c.args.c c.args.bands.now.parts.now.slice c.args.bands.now.index c.loop-b.coeffs.items c.read_subband.new.coeffs.items _ c.loop-b.b c.area.result c.quantiser.result.index c.loop-b.bits c.read_subband.new.block (omega arith) c.area.ensures.value c.quantiser.ensures c.loop-b.invariant.read c.in_ok-read_subband.ensures.read;
  sound = c.in_ok-read_subband.ensures.sound;
}

pub returns-clause-value : goal.returns-clause-value
returns-clause-value c = all_read (parameters_of c.args.bands.now.parts.now.plan) c.args.c c.args.bands.now.parts.now.slice c.args.bands.now.index c.loop-b.coeffs.items _ c.loop-b.b c.loop-b.bits (omega arith) c.loop-b.invariant.read

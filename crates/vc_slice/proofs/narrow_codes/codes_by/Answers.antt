use Rattle.std.proofs.Common.{◌≡◌, length, arith, rules}
use Rattle.std.proofs.lemmas.List.{length-take}
use Rattle.vc_types.specs.Encoding.{block_bits}
use Rattle.vc_slice.proofs.WrittenBlocks.{all_quantised, few_coefficients}
use Rattle.vc_slice.proofs.narrow_codes.codes_by.Goals as goal

pub sint_codes-requires : goal.sint_codes-requires
sint_codes-requires c =
    let long : length c.quantise.new.numbers ≡ length c.args.numbers.now = search rules in
    omega (arith, few_coefficients c.args.bands.now.parts.now c.args.c, long, c.requires, length-take c.used_count-count.result c.quantise.new.numbers)

pub returns : goal.returns
unfolding block_bits
returns c = grind (arith, all_quantised)

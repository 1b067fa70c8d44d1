use Rattle.vc_slice.specs.RunSlices.{place_in_strip}
use Rattle.vc_slice.proofs.DequantisedBlocks.{filled, sound}
use Rattle.vc_slice.proofs.strip_blocks.strip_block.Goals as goal

pub returns-clause-filled : goal.returns-clause-filled
returns-clause-filled c =
    filled (place_in_strip c.args.run.now c.args.bands.now.parts.now c.args.c) c.args.bands.now c.args.c c.args.block.now c.read_numbers.new.out c.args.strip.now c.strip_numbers.new.strip c.in_ok-greatest.ensures.numbers
    c.strip_numbers.result c.strip_numbers.ensures.all

pub returns-clause-sound : goal.returns-clause-sound
returns-clause-sound c =
    sound (place_in_strip c.args.run.now c.args.bands.now.parts.now c.args.c) c.args.bands.now c.args.c c.args.block.now c.read_numbers.new.out c.args.strip.now c.strip_numbers.new.strip c.in_ok-greatest.ensures.numbers
    c.strip_numbers.result c.strip_numbers.ensures.all

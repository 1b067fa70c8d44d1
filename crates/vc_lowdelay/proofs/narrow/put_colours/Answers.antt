use Rattle.std.proofs.Common.{◌≡◌, rules, length, arith}
use Rattle.std.proofs.lemmas.Result.{on_ok_weaker}
use Rattle.vc_types.specs.declared.video.Component.TheVariants.{C1, C2}
use Rattle.vc_slice.proofs.ColourParts.{colour_counts}
use Rattle.vc_lowdelay.specs.OfBands.{parameters_in, read_in, turned_in}
use Rattle.vc_lowdelay.proofs.SliceReads.{puts_same, first_read, second_read}
use Rattle.vc_lowdelay.proofs.narrow.put_colours.Goals as goal

pub put_colour-requires-clause-greatest : goal.put_colour-requires-clause-greatest
put_colour-requires-clause-greatest c = λ i h. c.in_ok-greatest.ensures.most i (omega (arith, h, c.count-count.ensures))

pub put_colour-requires-2-clause-turns : goal.put_colour-requires-2-clause-turns
put_colour-requires-2-clause-turns c =
    let both = colour_counts (parameters_in c.args.bands.now) c.args.bands.now.parts.now.slice in
    let long : length c.read_block.new.numbers ≡ length c.args.turns.now = search rules in
    omega (arith, both, long, c.requires.turns)

pub put_colour-requires-2-clause-greatest : goal.put_colour-requires-2-clause-greatest
put_colour-requires-2-clause-greatest c = λ i h.
    let both = colour_counts (parameters_in c.args.bands.now) c.args.bands.now.parts.now.slice in
    c.in_ok-greatest.ensures.most i (omega (arith, h, both, c.count-count.ensures))

pub put_colour-requires-2-clause-room : goal.put_colour-requires-2-clause-room
put_colour-requires-2-clause-room c =
    let both = colour_counts (parameters_in c.args.bands.now) c.args.bands.now.parts.now.slice in
    let long : length c.put_colour.new.numbers ≡ length c.args.numbers.now = search rules in
    omega (arith, both, long, c.requires.room)

pub returns-clause-c1 : goal.returns-clause-c1
returns-clause-c1 c =
    let bands = c.args.bands.now in
    let turns = c.read_block.new.numbers in
    let own = puts_same bands C1 (turned_in bands C1 turns) (read_in bands C1 c.args.block.now) c.args.c1.now.items c.put_colour.new.cells.items
    (first_read bands c.args.block.now turns (λ i h. c.in_ok-greatest.ensures.numbers i (omega (arith, h, c.count-count.ensures))))
    c.in_ok-put_colour.ensures in
    on_ok_weaker c.put_colour-2.result (λ any. own) c.put_colour-2.ensures

pub returns-clause-c2 : goal.returns-clause-c2
returns-clause-c2 c =
    let bands = c.args.bands.now in
    let turns = c.read_block.new.numbers in
    on_ok_weaker c.put_colour-2.result (λ puts. puts_same bands C2 (turned_in bands C2 turns) (read_in bands C2 c.args.block.now) c.args.c2.now.items c.put_colour-2.new.cells.items
    (second_read bands c.args.block.now turns (λ i h. c.in_ok-greatest.ensures.numbers i (omega (arith, h, c.count-count.ensures))))
    puts) c.put_colour-2.ensures

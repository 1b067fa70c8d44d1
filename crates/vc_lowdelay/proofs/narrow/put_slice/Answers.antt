use Rattle.vc_types.specs.declared.video.Component.TheVariants.{Y, C1, C2}
use Rattle.vc_lowdelay.proofs.SliceReads.{fills, is_small, sound}
use Rattle.vc_lowdelay.proofs.narrow.put_slice.Goals as goal

pub returns-clause-y : goal.returns-clause-y
returns-clause-y c = fills c.args.bands.now c.args.coded.now c.requires.index Y _ _ c.in_ok-put_luma.ensures

pub returns-clause-c1 : goal.returns-clause-c1
returns-clause-c1 c = fills c.args.bands.now c.args.coded.now c.requires.index C1 _ _ c.in_ok-put_colours.ensures.c1

pub returns-clause-c2 : goal.returns-clause-c2
returns-clause-c2 c = fills c.args.bands.now c.args.coded.now c.requires.index C2 _ _ c.in_ok-put_colours.ensures.c2

pub returns-clause-sound : goal.returns-clause-sound
returns-clause-sound c =
    let bands = c.args.bands.now in
    let coded = c.args.coded.now in
    let index = c.requires.index in
    sound bands coded index (is_small bands coded index Y _ _ c.in_ok-put_luma.ensures)
    (is_small bands coded index C1 _ _ c.in_ok-put_colours.ensures.c1) (is_small bands coded index C2 _ _ c.in_ok-put_colours.ensures.c2)

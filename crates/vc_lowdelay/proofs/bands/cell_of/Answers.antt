use Rattle.vc_types.proofs.RectangleCells.{place_in-inside}
use Rattle.vc_lowdelay.proofs.bands.cell_of.Goals as goal

pub returns-clause-across : goal.returns-clause-across
returns-clause-across c = (place_in-inside c.args.rect.now c.args.i c.requires.number).right

pub returns-clause-down : goal.returns-clause-down
returns-clause-down c = (place_in-inside c.args.rect.now c.args.i c.requires.number).bottom

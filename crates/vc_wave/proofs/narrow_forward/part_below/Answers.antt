use Rattle.std.proofs.Common.{length, arith}
use Rattle.vc_types.specs.Subbands.{padded_width}
use Rattle.vc_types.specs.TransformParameters.{parameters_of}
use Rattle.vc_wave.proofs.HighestParted.{levels_parted}
use Rattle.vc_wave.proofs.TurnedLevels.{all_rooms}
use Rattle.vc_wave.proofs.narrow_forward.part_below.Goals as goal

pub part_levels-requires-clause-room : goal.part_levels-requires-clause-room
part_levels-requires-clause-room c =
    let p = parameters_of c.args.plan.now in
    let l = c.levels_of.ensures in
    rw (l.levels, l.pitch, l.w, l.h, c.padded-width.ensures.width)
    (all_rooms p c.args.c (padded_width p c.args.c) (length c.args.cells.now) (length c.args.line.now)
    (omega arith) (omega (arith, c.requires.cells)) c.requires.line)

pub part_levels-requires-clause-bound : goal.part_levels-requires-clause-bound
part_levels-requires-clause-bound c = rw (c.levels_of.ensures.down, c.levels_of.ensures.levels) c.requires.bound

pub returns : goal.returns
returns c = λ samples top.
    let p = parameters_of c.args.plan.now in
    let l = c.levels_of.ensures in
    levels_parted p c.args.c (omega arith) c.requires.symmetric samples c.args.cells.now c.part_levels.new.cells top
    (rw (l.levels, l.pitch, l.down, l.w, l.h, c.padded-width.ensures.width) at c.part_levels.ensures)

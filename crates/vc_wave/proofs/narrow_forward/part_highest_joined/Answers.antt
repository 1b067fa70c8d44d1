use Rattle.std.proofs.Common.{arith, ◌∙◌}
use Rattle.vc_types.specs.TransformParameters.{parameters_of}
use Rattle.vc_wave.proofs.HighestParted.{highest_parted, highest_bound}
use Rattle.vc_wave.proofs.narrow_forward.part_highest_joined.Goals as goal

pub part_halves-requires-clause-room : goal.part_halves-requires-clause-room
part_halves-requires-clause-room g c =
    rw (c.source_of-source.ensures.w, c.source_of-source.ensures.down) c.requires.room

pub part_halves-requires-clause-out : goal.part_halves-requires-clause-out
part_halves-requires-clause-out g c =
    let source = c.source_of-source.ensures in
    rw (source.columns, source.rows) c.requires.cells

pub returns-clause-made : goal.returns-clause-made
returns-clause-made g c =
    let p = parameters_of c.args.plan.now in
    let source = c.source_of-source in
    let level = source.result.level in
    highest_parted p c.args.c c.args.plane.now (omega arith) c.requires.width c.requires.height level.wavelets.down
    level.w level.h source.result.depth source.ensures.down source.ensures.w source.ensures.h source.ensures.depth
    c.part_halves.new.out (rw source.ensures.plane at c.part_halves.ensures)

pub returns-clause-bound : goal.returns-clause-bound
returns-clause-bound g c =
    let p = parameters_of c.args.plan.now in
    let source = c.source_of-source in
    let level = source.result.level in
    highest_bound p c.args.c c.args.plane.now (omega arith) c.requires.width c.requires.height level.wavelets.down
    level.w level.h source.result.depth source.ensures.down source.ensures.w source.ensures.h source.ensures.depth
    c.part_halves.new.out (rw source.ensures.plane at c.part_halves.ensures) source.result.bits.0 level.some_columns
    level.some_rows
    (rw source.ensures.depth c.requires.samples) (c.part_halves.auto.out ∙ c.requires.cells)
    (rw source.ensures.depth c.requires.narrow)

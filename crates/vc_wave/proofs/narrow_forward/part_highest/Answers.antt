use Rattle.std.proofs.Common.{◌≡◌, ◌-◌, ◌*◌, arith, ap, sym, ◌∙◌}
use Rattle.vc_types.specs.Subbands.{padded_width, padded_height}
use Rattle.vc_types.specs.TransformParameters.{parameters_of}
use Rattle.vc_wave.specs.Remade.{parted_in_turn}
use Rattle.vc_wave.specs.Samples.{padded_sample}
use Rattle.vc_wave.proofs.HighestParted.{from_first, highest_parted, highest_bound}
use Rattle.vc_wave.proofs.narrow_forward.part_highest.Goals as goal

pub part_pairs-requires-clause-room : goal.part_pairs-requires-clause-room
part_pairs-requires-clause-room c =
    rw (c.source_of-source.ensures.w, c.source_of-source.ensures.down) c.requires.room

pub part_pairs-requires-clause-out : goal.part_pairs-requires-clause-out
part_pairs-requires-clause-out c =
    let source = c.source_of-source.ensures in
    let level = c.source_of-source.result.level in
    let rows : padded_height (parameters_of c.args.plan.now) c.args.c ≡ 2 * (level.h - 0) =
    omega (arith, source.rows) in
    c.requires.cells ∙ ap (λ n. n * padded_width (parameters_of c.args.plan.now) c.args.c) rows
    ∙ ap (λ n. 2 * (level.h - 0) * n) (sym source.columns)

pub returns-clause-made : goal.returns-clause-made
returns-clause-made c =
    let p = parameters_of c.args.plan.now in
    let source = c.source_of-source in
    let level = source.result.level in
    highest_parted p c.args.c c.args.plane.now (omega arith) c.requires.width c.requires.height level.wavelets.down
    level.w level.h source.result.depth source.ensures.down source.ensures.w source.ensures.h source.ensures.depth
    c.part_pairs.new.out
    (rw source.ensures.plane at (from_first (2 * level.w) level.h c.part_pairs.new.out
    (parted_in_turn level.wavelets.down level.w level.h
    (padded_sample source.result.plane.now source.result.depth)) c.part_pairs.ensures))

pub returns-clause-bound : goal.returns-clause-bound
returns-clause-bound c =
    let p = parameters_of c.args.plan.now in
    let source = c.source_of-source in
    let level = source.result.level in
    highest_bound p c.args.c c.args.plane.now (omega arith) c.requires.width c.requires.height level.wavelets.down
    level.w level.h source.result.depth source.ensures.down source.ensures.w source.ensures.h source.ensures.depth
    c.part_pairs.new.out
    (rw source.ensures.plane at (from_first (2 * level.w) level.h c.part_pairs.new.out
    (parted_in_turn level.wavelets.down level.w level.h
    (padded_sample source.result.plane.now source.result.depth)) c.part_pairs.ensures)) source.result.bits.0 level.some_columns level.some_rows
    (rw source.ensures.depth c.requires.samples) (c.part_pairs.auto.out ∙ c.requires.cells)
    (rw source.ensures.depth c.requires.narrow)

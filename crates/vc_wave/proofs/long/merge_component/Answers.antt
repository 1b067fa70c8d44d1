use Rattle.std.proofs.Common.{rules, ◌*◌, ◌^◌, length, ap, ◌∙◌}
use Rattle.vc_types.specs.TransformParameters.{parameters_of}
use Rattle.vc_types.specs.Transforms.{lowest_width, lowest_height, inverse_levels, inverse_transform}
use Rattle.vc_wave.specs.declared.level.TheConstants.{BLOCK}
use Rattle.vc_wave.proofs.Levels.{whole_room, lowest_room}
use Rattle.vc_wave.proofs.TurnedLevels.{sides_small}
use Rattle.vc_wave.proofs.long.merge_component.Goals as goal

pub merge_across-requires-clause-narrow : goal.merge_across-requires-clause-narrow
merge_across-requires-clause-narrow c = search (rules, sides_small)

pub merge_across-requires-clause-room : goal.merge_across-requires-clause-room
merge_across-requires-clause-room c =
    rw (c.lowest-w.ensures.width, c.lowest-w.ensures.height)
    (lowest_room (parameters_of c.args.plan.now) c.args.c c.args.stride (length c.args.cells.now) BLOCK
    (length c.args.scratch.now)
    c.requires.room)

pub merge_levels-requires : goal.merge_levels-requires
merge_levels-requires c =
    let l = c.levels_of.ensures in
    record {
      room = rw (l.levels, l.pitch, l.w, l.h, c.merge_across.auto.cells, c.merge_across.auto.scratch)
          (whole_room (parameters_of c.args.plan.now) c.args.c c.args.stride (length c.args.cells.now) BLOCK
          (length c.args.scratch.now)
          c.requires.room);
    }

pub returns : goal.returns
unfolding inverse_transform
returns c = λ fits.
    let p = parameters_of c.args.plan.now in
    let l = c.levels_of.ensures in
    let across = rw (c.lowest-w.ensures.width, c.lowest-w.ensures.height) at
    (c.merge_across.ensures c.if-not-merge_across.false) in
    (rw (l.levels, l.pitch, l.down, l.across, l.w, l.h) at (c.merge_levels.ensures fits))
    ∙ ap (inverse_levels p.wavelet p.wavelet_ho p.depth (lowest_width p c.args.c * 2 ^ p.depth_ho)
    (lowest_height p c.args.c)) across

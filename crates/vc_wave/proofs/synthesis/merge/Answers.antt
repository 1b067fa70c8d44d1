use Rattle.std.proofs.Common.{rules, ◌*◌, ◌^◌, length, arith, ap, ◌∙◌}
use Rattle.vc_types.specs.TransformParameters.{parameters_of}
use Rattle.vc_types.specs.Transforms.{lowest_width, lowest_height, inverse_levels, inverse_transform}
use Rattle.vc_wave.specs.declared.level.TheConstants.{BLOCK}
use Rattle.vc_wave.specs.Planes.{plane_of}
use Rattle.vc_wave.proofs.Levels.{whole_room, lowest_room}
use Rattle.vc_wave.proofs.PlaneGrowth.{across_below, all_below}
use Rattle.vc_wave.proofs.TurnedLevels.{sides_small}
use Rattle.vc_wave.proofs.synthesis.merge.Goals as goal

pub merge_across-requires-clause-narrow : goal.merge_across-requires-clause-narrow
merge_across-requires-clause-narrow c = search (rules, sides_small)

pub merge_across-requires-clause-room : goal.merge_across-requires-clause-room
merge_across-requires-clause-room c =
    rw (c.lowest-w.ensures.width, c.lowest-w.ensures.height)
    (lowest_room (parameters_of c.args.plan.now) c.args.c c.args.stride (length c.args.cells.now) BLOCK
    (length c.args.scratch.now)
    c.requires.room)

pub merge_levels-requires-clause-room : goal.merge_levels-requires-clause-room
merge_levels-requires-clause-room c =
    let l = c.levels_of.ensures in
    rw (l.levels, l.pitch, l.w, l.h, c.merge_across.auto.cells, c.merge_across.auto.scratch)
    (whole_room (parameters_of c.args.plan.now) c.args.c c.args.stride (length c.args.cells.now) BLOCK
    (length c.args.scratch.now)
    c.requires.room)

pub merge_levels-requires-clause-small : goal.merge_levels-requires-clause-small
merge_levels-requires-clause-small c =
    let plan = c.args.plan.now in
    rw (c.levels_of.ensures.levels, c.levels_of.ensures.pitch)
    (across_below plan.wavelet_ho plan.depth_ho plan.depth c.lowest-w.result.0 c.lowest-w.result.1 _ _
    (omega arith)
    c.merge_across.ensures c.requires.small)

pub returns-clause-value : goal.returns-clause-value
unfolding inverse_transform
returns-clause-value c =
    let p = parameters_of c.args.plan.now in
    let l = c.levels_of.ensures in
    let across = rw (c.lowest-w.ensures.width, c.lowest-w.ensures.height) at c.merge_across.ensures in
    (rw (l.levels, l.pitch, l.down, l.across, l.w, l.h) at c.merge_levels.ensures)
    ∙ ap (inverse_levels p.wavelet p.wavelet_ho p.depth (lowest_width p c.args.c * 2 ^ p.depth_ho)
    (lowest_height p c.args.c)) across

pub returns-clause-small : goal.returns-clause-small
returns-clause-small c =
    let plan = c.args.plan.now in
    let l = c.levels_of.ensures in
    all_below plan.wavelet plan.wavelet_ho plan.depth c.levels_of.result.nesting.w
    c.levels_of.result.nesting.h
    (plane_of c.args.stride c.merge_across.new.cells) _ (omega arith)
    (rw (l.levels, l.pitch, l.down, l.across) at c.merge_levels.ensures)
    (across_below plan.wavelet_ho plan.depth_ho plan.depth c.lowest-w.result.0 c.lowest-w.result.1 _ _
    (omega arith)
    c.merge_across.ensures c.requires.small)

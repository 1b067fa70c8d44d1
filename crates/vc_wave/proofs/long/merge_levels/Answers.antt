use Rattle.std.proofs.Common.{rules, ◌≡◌, arith}
use Rattle.vc_wave.specs.Planes.{plane_of}
use Rattle.vc_wave.proofs.Levels.{level_room, no_levels, next_level}
use Rattle.vc_wave.proofs.long.merge_levels.Goals as goal

pub loop-n-init : goal.loop-n-init
loop-n-init c = search (rules, no_levels)

pub merge_level-requires : goal.merge_level-requires
merge_level-requires c =
    let l = c.args.levels in
    let level = c.level.ensures in
    record {
      room = rw (level.w, level.h, level.pitch, c.loop-n.auto.cells, c.loop-n.auto.scratch)
          (level_room l.nesting.w l.nesting.h c.loop-n.n l.nesting.levels _ _ _ _ c.loop-n-test.true
          c.requires.room);
    }

pub loop-n-preserved : goal.loop-n-preserved
loop-n-preserved c =
    let l = c.args.levels in
    let level = c.level.ensures in
    next_level l.wavelets.down l.wavelets.across c.loop-n.n l.nesting.w l.nesting.h
    (plane_of l.pitch c.args.cells.now)
    (plane_of l.pitch c.loop-n.cells) (plane_of l.pitch c.merge_level.new.cells) c.loop-n.invariant
    (rw (level.wavelets, level.w, level.h, level.pitch) at (c.merge_level.ensures c.if-not-merge_level.false))

pub returns : goal.returns
returns c = λ fits. (let end : c.loop-n.n ≡ c.args.levels.nesting.levels = omega arith in
    rw end at c.loop-n.invariant)

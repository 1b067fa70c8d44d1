use Rattle.std.proofs.Common.{◌≡◌, ◌+◌, ◌-◌, ◌*◌, ◌^◌, arith, sym, subst, ◌∙◌}
use Rattle.vc_types.specs.Transforms.{Cells, forward_level, forward_levels}
use Rattle.vc_wave.specs.Planes.{AreBelow, plane_of}
use Rattle.vc_wave.proofs.Levels.{level_room, no_forward, next_forward}
use Rattle.vc_wave.proofs.PlaneGrowth.{below_more, forward_level_grows}
use Rattle.vc_wave.proofs.level.part_levels.Goals as goal

pub part_level-requires-clause-room : goal.part_level-requires-clause-room
part_level-requires-clause-room c =
    let l = c.args.levels in
    let level = c.level.ensures in
    rw (level.w, level.h, level.pitch, c.loop-n.auto.cells, c.loop-n.auto.scratch)
    (level_room l.nesting.w l.nesting.h (l.nesting.levels - 1 - c.loop-n.n) l.nesting.levels _ _ _ _
    (omega arith) c.requires.room)

pub part_level-requires-clause-small : goal.part_level-requires-clause-small
part_level-requires-clause-small c =
    rw c.level.ensures.pitch
    (below_more (16 + 8 * c.loop-n.n) 100 (plane_of c.args.levels.pitch c.loop-n.cells)
    (omega arith) c.loop-n.invariant.small)

pub loop-n-preserved : goal.loop-n-preserved
loop-n-preserved c =
    let l = c.args.levels in
    let level = c.level.ensures in
    let wavelet = l.wavelets.down in
    let w = l.nesting.w in
    let h = l.nesting.h in
    let left = l.nesting.levels - 1 - c.loop-n.n in
    let now = plane_of l.pitch c.loop-n.cells in
    let made = plane_of l.pitch c.part_level.new.cells in
    let before : l.nesting.levels - c.loop-n.n ≡ left + 1 = omega arith in
    let after : l.nesting.levels - (c.loop-n.n + 1) ≡ left = omega arith in
    let size : 16 + 8 * c.loop-n.n + 8 ≡ 16 + 8 * (c.loop-n.n + 1) = omega arith in
    let is : made ≡ forward_level wavelet (w * 2 ^ left) (h * 2 ^ left) now =
    rw (level.wavelets, level.w, level.h, level.pitch) at c.part_level.ensures in
    record {
      value = rw after
          (next_forward wavelet left w h now made
          (forward_levels wavelet l.nesting.levels w h (plane_of l.pitch c.args.cells.now)) is
          (rw before at c.loop-n.invariant.value));
      small = subst (λ n. AreBelow (2 ^ n) made) size
          (subst (λ (p : Cells). AreBelow (2 ^ (16 + 8 * c.loop-n.n + 8)) p) (sym is)
          (forward_level_grows wavelet (w * 2 ^ left) (h * 2 ^ left) (16 + 8 * c.loop-n.n) now
          (omega arith) c.loop-n.invariant.small));
    }

pub returns : goal.returns
returns c =
    let l = c.args.levels in
    let none : l.nesting.levels - c.loop-n.n ≡ 0 = omega arith in
    sym (no_forward l.wavelets.down l.nesting.w l.nesting.h (plane_of l.pitch c.loop-n.cells))
    ∙ (rw none at c.loop-n.invariant.value)

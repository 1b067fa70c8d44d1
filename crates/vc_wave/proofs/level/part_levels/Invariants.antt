use Rattle.std.proofs.Common.{◌≡◌, ◌+◌, ◌-◌, ◌*◌, ◌^◌}
use Rattle.vc_types.specs.Transforms.{forward_levels}
use Rattle.vc_wave.specs.Planes.{AreBelow, plane_of}
use Rattle.vc_wave.proofs.level.part_levels.Given as goal

abbrev pub invariant-loop-n : goal.invariant-loop-n
invariant-loop-n l = record {
  value : forward_levels l.levels.wavelets.down
      (l.levels.nesting.levels - l.n) l.levels.nesting.w l.levels.nesting.h (plane_of l.levels.pitch l.cells)
      ≡ forward_levels l.levels.wavelets.down l.levels.nesting.levels l.levels.nesting.w l.levels.nesting.h
      (plane_of l.levels.pitch l.initial.cells);
  small : AreBelow (2 ^ (16 + 8 * l.n)) (plane_of l.levels.pitch l.cells);
}

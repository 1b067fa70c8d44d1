use Rattle.std.proofs.Common.{◌≡◌, ◌-◌, ◌*◌, ◌≤◌, false}
use Rattle.vc_types.specs.Transforms.{on_columns}
use Rattle.vc_wave.specs.declared.pass.Direction.TheVariants.{Synthesis}
use Rattle.vc_wave.specs.Remade.{remade}
use Rattle.vc_wave.specs.Planes.{plane_of}
use Rattle.vc_wave.proofs.long.merge_columns.Given as goal

abbrev pub invariant-loop-start : goal.invariant-loop-start
invariant-loop-start l = record {
  done : plane_of l.level.pitch l.cells
      ≡ on_columns (remade Synthesis l.level.wavelets.down false l.level.h) l.start
      (plane_of l.level.pitch l.initial.cells);
  within : l.start ≤ 2 * l.level.w;
}

abbrev pub decreases-loop-start : goal.decreases-loop-start
decreases-loop-start l = 2 * l.level.w - l.start

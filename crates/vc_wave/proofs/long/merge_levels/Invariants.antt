use Rattle.std.proofs.Common.{◌≡◌}
use Rattle.vc_types.specs.Transforms.{inverse_levels}
use Rattle.vc_wave.specs.Planes.{plane_of}
use Rattle.vc_wave.proofs.long.merge_levels.Given as goal

abbrev pub invariant-loop-n : goal.invariant-loop-n
invariant-loop-n l =
    plane_of l.levels.pitch l.cells
    ≡ inverse_levels l.levels.wavelets.down l.levels.wavelets.across l.n l.levels.nesting.w l.levels.nesting.h
    (plane_of l.levels.pitch l.initial.cells)

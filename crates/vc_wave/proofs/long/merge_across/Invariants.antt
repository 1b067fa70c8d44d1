use Rattle.std.proofs.Common.{◌≡◌}
use Rattle.vc_types.specs.Transforms.{levels_across}
use Rattle.vc_wave.specs.Planes.{plane_of}
use Rattle.vc_wave.proofs.long.merge_across.Given as goal

abbrev pub invariant-loop-level : goal.invariant-loop-level
invariant-loop-level l =
    plane_of l.rows.pitch l.cells
    ≡ levels_across l.rows.wavelet l.level l.rows.half l.rows.count (plane_of l.rows.pitch l.initial.cells)

use Rattle.std.proofs.Common.{◌≡◌}
use Rattle.vc_types.specs.Transforms.{on_rows}
use Rattle.vc_wave.specs.declared.pass.Direction.TheVariants.{Synthesis}
use Rattle.vc_wave.specs.Remade.{remade}
use Rattle.vc_wave.specs.Planes.{plane_of}
use Rattle.vc_wave.proofs.long.merge_rows.Given as goal

abbrev pub invariant-loop-y : goal.invariant-loop-y
invariant-loop-y l =
    plane_of l.rows.pitch l.cells
    ≡ on_rows (remade Synthesis l.rows.wavelet l.shifted l.rows.half) l.y
    (plane_of l.rows.pitch l.initial.cells)

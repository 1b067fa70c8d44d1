use Rattle.std.proofs.Common.{◌*◌, ◌≤◌, arith, ◌∙◌}
use Rattle.std.proofs.Math.Nat.{mul-le-mul_right}
use Rattle.vc_types.specs.Rasters.{sample_at}
use Rattle.vc_types.specs.TransformParameters.{parameters_of}
use Rattle.vc_wave.specs.Parts.{pairs_held}
use Rattle.vc_wave.specs.Sides.{highest_width}
use Rattle.vc_wave.proofs.HighestLevel.{whole_width}
use Rattle.vc_wave.proofs.narrow_forward.forward_narrow_joined.Goals as goal

pub part_below-requires-clause-cells : goal.part_below-requires-clause-cells
part_below-requires-clause-cells g c = c.part_highest_joined.auto.cells ∙ c.requires.cells

pub part_below-requires-clause-line : goal.part_below-requires-clause-line
part_below-requires-clause-line g c =
    let p = parameters_of c.args.plan.now in
    let wide = whole_width p c.args.c (omega arith) in
    let once : 1 * (2 * highest_width p c.args.c) ≤ 2 * pairs_held p.wavelet * (2 * highest_width p c.args.c) =
    mul-le-mul_right (2 * highest_width p c.args.c) (omega arith) in
    omega (arith, once, wide, c.requires.room, c.part_highest_joined.auto.room)

pub returns : goal.returns
returns g c = c.part_below.ensures (sample_at c.args.plane.now) c.part_highest_joined.ensures.made

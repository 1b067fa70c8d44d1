use Rattle.std.proofs.Common.{◌≡◌, ◌*◌, ◌^◌, ◌<◌, List, ℤ, All, length, drop, unsigned_abs, arith, subst}
use Rattle.vc_types.specs.TransformParameters.{parameters_of}
use Rattle.vc_wave.proofs.Grids.{written_over}
use Rattle.picture_encode.proofs.Transformed.{are_narrow}
use Rattle.picture_encode.proofs.transform.narrow_joined.Goals as goal

pub returns : goal.returns
returns g c =
    let cells = c.forward_narrow_joined.new.cells in
    let whole : length cells ≡ c.padded-width.result.1 * c.padded-width.result.0 = omega (arith, c.in_ok-cells.ensures) in
    let all = written_over c.in_ok-cells.cells.len cells (drop (length cells) c.in_ok-cells.cells.items) (omega arith) in
    let small = subst (λ (zs : List ℤ). All (λ z. unsigned_abs z < 2 ^ 60) zs) c.deref.ensures.value c.are_small.ensures in
    are_narrow (parameters_of c.args.plan.now) c.args.c c.args.plane.now _ _ cells _ c.requires.symmetric c.padded-width.ensures.width c.padded-width.ensures.height whole all small c.forward_narrow_joined.ensures

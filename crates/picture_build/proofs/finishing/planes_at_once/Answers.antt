use Rattle.vc_types.specs.TransformParameters.{parameters_of}
use Rattle.picture_build.proofs.InCells.{three_planes}
use Rattle.picture_build.proofs.finishing.planes_at_once.Goals as goal

pub returns : goal.returns
returns g c = λ slices all.
    let e = c.joined-c1.ensures in
    three_planes (parameters_of c.args.plan.now) slices c.args.cells.now.y.now c.args.cells.now.c1.now c.args.cells.now.c2.now all
    c.joined-c1.result.1.1 c.joined-c1.result.0 c.joined-c1.result.1.0 e.y e.c1 e.c2
    c.in_ok-y.field-0 c.in_ok-c1.field-0 c.in_ok-c2.field-0 c.in_ok-y.was c.in_ok-c1.was c.in_ok-c2.was

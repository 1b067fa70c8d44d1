use Rattle.std.proofs.Common.{◌≡◌, ◌*◌, length, drop, arith, ap, ◌∙◌, List, ℕ}
use Rattle.vc_types.specs.Subbands.{padded_width}
use Rattle.vc_types.specs.TransformParameters.{parameters_of}
use Rattle.vc_types.specs.Transforms.{inverse_transform}
use Rattle.vc_wave.specs.Planes.{plane_of}
use Rattle.picture_build.proofs.GridCells.{written_over}
use Rattle.picture_build.proofs.BuiltPlanes.{plane-filled}
use Rattle.picture_build.proofs.narrow.nested_plane.Goals as goal

pub returns-then-inverse_output : goal.returns-then-inverse_output
returns-then-inverse_output c =
    let p = parameters_of c.args.plan.now in
    let samples = c.inverse_output.new.samples in
    let width = c.format-width.result.0 in
    let height = c.format-width.result.1 in
    let whole : length samples ≡ height * width = omega (arith, c.in_ok-samples.ensures.samples) in
    plane-filled p c.args.c c.new.result width height c.format-width.result.2 samples (inverse_transform p c.args.c (plane_of (padded_width p c.args.c) c.args.nested.now))
    (c.new.ensures ∙ ap (λ (xs : List ℕ). record { width = width; height = height; samples = xs }) (written_over c.in_ok-samples.samples.len samples (drop (length samples) c.in_ok-samples.samples.items) (omega arith)))
    c.format-width.ensures.width c.format-width.ensures.height c.format-width.ensures.depth whole
    (c.inverse_output.ensures c.if-inverse_output.true)

use Rattle.std.proofs.Common.{◌≡◌, ◌*◌, length, drop, arith, ap, ◌∙◌, List, ℕ}
use Rattle.vc_types.specs.Rasters.{cell_at}
use Rattle.vc_types.specs.TransformParameters.{parameters_of}
use Rattle.picture_build.proofs.GridCells.{written_over}
use Rattle.picture_build.proofs.BuiltPlanes.{plane-filled}
use Rattle.picture_build.proofs.output.output.Goals as goal

pub returns : goal.returns
returns c =
    let samples = c.output_rows.new.samples in
    let width = c.format-width.result.0 in
    let height = c.format-width.result.1 in
    let whole : length samples ≡ height * width = omega (arith, c.in_ok-samples.ensures.len) in
    plane-filled (parameters_of c.args.plan.now) c.args.c c.new.result width height c.format-width.result.2 samples (cell_at c.args.grid.now)
    (c.new.ensures ∙ ap (λ (xs : List ℕ). record { width = width; height = height; samples = xs }) (written_over c.in_ok-samples.samples.len samples (drop (length samples) c.in_ok-samples.samples.items) (omega arith)))
    c.format-width.ensures.width c.format-width.ensures.height c.format-width.ensures.depth whole c.output_rows.ensures

use Rattle.std.proofs.Common.{◌≡◌, ◌*◌, ◌≤◌, length, drop, arith, ap, refl, ◌∙◌, List, ℕ}
use Rattle.vc_types.specs.Subbands.{padded_height, padded_width, plane_height}
use Rattle.vc_types.specs.TransformParameters.{parameters_of}
use Rattle.vc_types.proofs.PaddedSides.{padded-above}
use Rattle.vc_wave.specs.Planes.{plane_of}
use Rattle.picture_build.proofs.GridCells.{written_over}
use Rattle.picture_build.proofs.BuiltPlanes.{plane-filled}
use Rattle.picture_build.proofs.RowsWithin.{rows_within}
use Rattle.picture_build.proofs.output.output_long.Goals as goal

pub clip_rows-requires-clause-cells : goal.clip_rows-requires-clause-cells
clip_rows-requires-clause-cells c =
    let p = parameters_of c.args.plan.now in
    let is = c.format-width.ensures.height in
    let below : c.format-width.result.1 ≤ padded_height p c.args.c = rw is (padded-above (plane_height p.shape c.args.c) p.depth (omega (arith, is, c.format-width.ensures.range))) in
    rows_within c.format-width.result.1 c.padded-stride.result.0 (padded_height p c.args.c) (padded_width p c.args.c) (length c.args.cells.now) (length c.args.cells.now)
    below c.padded-stride.ensures.width c.requires refl

pub returns : goal.returns
returns c =
    let samples = c.clip_rows.new.samples in
    let width = c.format-width.result.0 in
    let height = c.format-width.result.1 in
    let whole : length samples ≡ height * width = omega (arith, c.in_ok-samples.ensures.len) in
    plane-filled (parameters_of c.args.plan.now) c.args.c c.new.result width height c.format-width.result.2 samples (plane_of (padded_width (parameters_of c.args.plan.now) c.args.c) c.args.cells.now)
    (c.new.ensures ∙ ap (λ (xs : List ℕ). record { width = width; height = height; samples = xs }) (written_over c.in_ok-samples.samples.len samples (drop (length samples) c.in_ok-samples.samples.items) (omega arith)))
    c.format-width.ensures.width c.format-width.ensures.height c.format-width.ensures.depth whole
    (rw c.padded-stride.ensures.width at c.clip_rows.ensures)

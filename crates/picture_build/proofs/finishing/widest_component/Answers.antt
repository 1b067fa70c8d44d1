use Rattle.vc_types.specs.Rasters.{cell_at}
use Rattle.vc_types.specs.TransformParameters.{parameters_of}
use Rattle.vc_types.proofs.SliceCounts.{some_across, some_down}
use Rattle.picture_build.proofs.InCells.{cells_are, plane_in}
use Rattle.picture_build.proofs.finishing.widest_component.Goals as goal

pub returns : goal.returns
returns c =
    let plan = c.args.plan.now in
    let p = parameters_of plan in
    let g = c.in_ok-coefficients.coefficients in
    let e = c.in_ok-coefficients.ensures in
    record {
      value = plane_in p c.args.c c.args.cells.now (cell_at g) (cell_at c.in_ok-samples.samples) c.output.result
          (λ slices at. cells_are p c.args.c (some_across plan.slices_x plan.slices_y plan.slices) (some_down plan.slices_x plan.slices_y plan.slices) slices c.args.cells.now at g e.width e.height e.cells)
          c.in_ok-samples.ensures.value c.output.ensures;
    }

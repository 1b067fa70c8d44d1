use Rattle.std.proofs.Common.{arith, sym, ap, subst, ◌∙◌, ◌<◌, ◌^◌, List, ℤ, unsigned_abs, All}
use Rattle.vc_types.specs.Rasters.{Lattice}
use Rattle.vc_types.specs.TransformParameters.{parameters_of}
use Rattle.vc_types.proofs.SliceCounts.{some_across, some_down}
use Rattle.picture_build.proofs.InCells.{cells_small}
use Rattle.picture_build.proofs.finishing.grid.Goals as goal

pub returns-clause-small : goal.returns-clause-small
returns-clause-small c =
    let plan = c.args.plan.now in
    subst (λ (zs : List ℤ). All (λ z. unsigned_abs z < 2 ^ 60) zs) (sym (ap (λ (g : Lattice). g.cells) c.new.ensures ∙ c.in_ok-wide.ensures))
    (cells_small (parameters_of plan) c.args.c (some_across plan.slices_x plan.slices_y plan.slices) (some_down plan.slices_x plan.slices_y plan.slices)
    c.requires.whole.0 c.args.cells.now c.requires.whole.1 c.padded-width.result.1 (omega (arith, c.padded-width.ensures.width)) c.padded-width.ensures.height)

use Rattle.std.proofs.Common.{◌∙◌, ap, sym, arith, ◌++◌, ◌≡◌, List, ℤ}
use Rattle.vc_types.specs.Quantisation.{subband_count}
use Rattle.vc_types.specs.Rasters.{cell_at}
use Rattle.vc_types.specs.TransformParameters.{parameters_of}
use Rattle.picture_encode.specs.Grids.{rectangle_numbers}
use Rattle.picture_encode.proofs.WalkedSlices.{none_before, more_before, all_before}
use Rattle.picture_encode.proofs.gathering.gather_wide.Goals as goal

pub loop-b-init : goal.loop-b-init
loop-b-init c = c.in_ok-coeffs.ensures.items ∙ sym (none_before (parameters_of c.args.parts.now.plan) c.args.c c.args.parts.now.slice (cell_at c.args.grid.now))

pub loop-b-preserved : goal.loop-b-preserved
loop-b-preserved c =
    let p = parameters_of c.args.parts.now.plan in
    let cells = cell_at c.args.grid.now in
    c.in_ok-push_rect.ensures
    ∙ ap (λ (l : List ℤ). l ++ rectangle_numbers cells c.rect.result) c.loop-b.invariant
    ∙ more_before p c.args.c c.args.parts.now.slice cells c.loop-b.b c.rect.result (omega arith) c.rect.ensures.value

pub returns : goal.returns
returns c =
    let p = parameters_of c.args.parts.now.plan in
    let last : c.loop-b.b ≡ subband_count p.depth_ho p.depth = omega arith in
    c.loop-b.invariant ∙ all_before p c.args.c c.args.parts.now.slice (cell_at c.args.grid.now) c.loop-b.b last

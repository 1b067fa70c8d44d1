use Rattle.std.proofs.Common.{ap, ◌∙◌, ◌+◌, ◌≤◌, subst, sym}
use Rattle.vc_types.specs.declared.rect.Rect.{Rect}
use Rattle.vc_types.specs.Subbands.{Subband, slice_rectangle}
use Rattle.vc_types.specs.TransformParameters.{parameters_of}
use Rattle.vc_types.specs.Transforms.{lowest_width, lowest_height}
use Rattle.vc_types.proofs.SliceCounts.{some_across}
use Rattle.vc_lowdelay.proofs.LowestPlaces.{first_subband, lowest_right, lowest_bottom}
use Rattle.vc_lowdelay.proofs.bands.lowest_rect.Goals as goal

pub returns-clause-value : goal.returns-clause-value
returns-clause-value c =
    let plan = c.args.plan.now in
    c.slice_rect.ensures.value ∙ ap (λ (b : Subband). slice_rectangle (parameters_of plan) c.args.c b c.args.slice) (first_subband plan.depth_ho plan.depth)

pub returns-clause-right : goal.returns-clause-right
returns-clause-right c =
    let plan = c.args.plan.now in
    subst (λ (r : Rect). r.x + r.width ≤ lowest_width (parameters_of plan) c.args.c) (sym (returns-clause-value c))
    (lowest_right (parameters_of plan) c.args.c (some_across plan.slices_x plan.slices_y plan.slices) c.args.slice c.requires)

pub returns-clause-bottom : goal.returns-clause-bottom
returns-clause-bottom c =
    let plan = c.args.plan.now in
    subst (λ (r : Rect). r.y + r.height ≤ lowest_height (parameters_of plan) c.args.c) (sym (returns-clause-value c))
    (lowest_bottom (parameters_of plan) c.args.c (some_across plan.slices_x plan.slices_y plan.slices) c.args.slice c.requires)

use Rattle.std.proofs.Common.{◌≡◌, ap, sym, ◌∙◌, rules}
use Rattle.std.specs.Prelude.{is_ok}
use Rattle.link_model.specs.Kept.{next_slices}
use Rattle.link_gather.proofs.FillingLaws.{cut_within, no_more}
use Rattle.vc_types.specs.TransformParameters.{parameters_of}
use Rattle.link_gather.proofs.cutting.has_slices.Goals as goal

pub split_at-requires : goal.split_at-requires
split_at-requires c = cut_within c.args.plan.now.prefix c.args.plan.now.scaler c.in-Ok.len c.loop-left.rest.now c.in-Ok.ensures.value

pub returns : goal.returns
returns c =
    let none : c.loop-left.left ≡ 0 = search rules in
    sym (no_more (parameters_of c.args.plan.now) c.loop-left.rest.now)
    ∙ ap (λ k. is_ok (next_slices (parameters_of c.args.plan.now) k c.loop-left.rest.now)) (sym none)
    ∙ c.loop-left.invariant

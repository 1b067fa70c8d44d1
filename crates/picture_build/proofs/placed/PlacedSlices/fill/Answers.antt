use Rattle.std.proofs.Common.{sym, subst, ◌∙◌, length}
use Rattle.std.specs.Vec.{with_items}
use Rattle.vc_types.specs.SliceCoefficients.{AreSliceCoefficients}
use Rattle.vc_types.specs.TransformParameters.{parameters_of}
use Rattle.vc_types.proofs.SliceCounts.{some_across, some_down}
use Rattle.picture_build.specs.Kept.{PartPicture}
use Rattle.picture_build.proofs.SeenSlices.{seen_more, kept_one_more}
use Rattle.picture_build.proofs.placed.PlacedSlices.fill.Goals as goal

pub invariant_of-self : goal.invariant_of-self
invariant_of-self c =
    let sound = subst (λ (q : PartPicture). AreSliceCoefficients q.parameters c.args.index c.args.c.now) (sym c.self.view_is) c.requires.whole in
    kept_one_more (parameters_of c.self.inside.plan) (some_across c.self.inside.plan.slices_x c.self.inside.plan.slices_y c.self.inside.plan.slices) (some_down c.self.inside.plan.slices_x c.self.inside.plan.slices_y c.self.inside.plan.slices) c.self.inside.came.items c.self.inside.y c.self.inside.c1 c.self.inside.c2 (length c.self.inside.numbers.items) c.self.invariant c.args.self.now c.self.view_is c.args.index c.requires.in_plan c.requires.once c.fill_slice.new.y c.fill_slice.new.c1 c.fill_slice.new.c2 c.args.c.now sound c.fill_slice.ensures.y c.fill_slice.ensures.c1 c.fill_slice.ensures.c2 (length (with_items c.self.inside.numbers c.fill_slice.new.numbers).items) (sym (with_items c.self.inside.numbers c.fill_slice.new.numbers).ok.0 ∙ c.self.inside.numbers.ok.0)

pub returns : goal.returns
returns c =
    let sound = subst (λ (q : PartPicture). AreSliceCoefficients q.parameters c.args.index c.args.c.now) (sym c.self.view_is) c.requires.whole in
    record { value = seen_more (parameters_of c.self.inside.plan) (some_across c.self.inside.plan.slices_x c.self.inside.plan.slices_y c.self.inside.plan.slices) (some_down c.self.inside.plan.slices_x c.self.inside.plan.slices_y c.self.inside.plan.slices) c.self.inside.came.items c.self.inside.y c.self.inside.c1 c.self.inside.c2 (length c.self.inside.numbers.items) c.self.invariant c.args.self.now c.self.view_is c.args.index c.requires.in_plan c.requires.once c.fill_slice.new.y c.fill_slice.new.c1 c.fill_slice.new.c2 c.args.c.now sound c.fill_slice.ensures.y c.fill_slice.ensures.c1 c.fill_slice.ensures.c2 (length (with_items c.self.inside.numbers c.fill_slice.new.numbers).items) (sym (with_items c.self.inside.numbers c.fill_slice.new.numbers).ok.0 ∙ c.self.inside.numbers.ok.0) }

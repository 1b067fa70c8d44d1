use Rattle.std.proofs.Common.{◌≡◌, ◌<◌, true, refl, sym, ap, subst, ◌∙◌, arith}
use Rattle.picture_build.proofs.WholeSlices.{whole_slice}
use Rattle.picture_build.specs.Kept.{PartPicture}
use Rattle.link_slices.specs.Jobs.{answered}
use Rattle.link_pictures.specs.SeenAnswers.{seen_answers}
use Rattle.link_pictures.proofs.SeenSlots.{still_none, unanswered, kept_sound, kept_unsound}
use Rattle.vc_types.specs.SameValues.{same_parameters}
use Rattle.vc_types.specs.Subbands.{slice_count}
use Rattle.vc_types.specs.TransformParameters.{Parameters, parameters_of}
use Rattle.vc_types.proofs.SameValues.{parameters_exactly}
use Rattle.link_pictures.proofs.picture.PictureSlices.keep.Goals as goal

pub fill-requires-clause-in_plan : goal.fill-requires-clause-in_plan
fill-requires-clause-in_plan c = grind (arith, parameters_exactly)

pub fill-requires-clause-once : goal.fill-requires-clause-once
fill-requires-clause-once c =
    let s = c.self.inside in
    (unanswered s.builder s.unsound.items c.args.done.job.index
    (still_none s.builder s.unsound.items c.self.invariant s.number c.args.done.job.index c.args.self.now c.self.view_is c.requires.once)).0

pub fill-requires-clause-whole : goal.fill-requires-clause-whole
fill-requires-clause-whole c = grind (arith, parameters_exactly, whole_slice)

pub returns-in-Ok : goal.returns-in-Ok
returns-in-Ok c =
    let s = c.self.inside in
    let i = c.args.done.job.index in
    let same : same_parameters s.builder.parameters (parameters_of c.args.done.job.plan) ≡ true = sym c.has_plan.ensures ∙ c.if-not-has_plan.false in
    let own = (parameters_exactly s.builder.parameters (parameters_of c.args.done.job.plan)).0 same in
    let lt = subst (λ (q : Parameters). i < slice_count q) (sym own) c.args.done.job.in_plan in
    let none = still_none s.builder s.unsound.items c.self.invariant s.number i c.args.self.now c.self.view_is c.requires.once in
    record {
      value = ap (λ (q : PartPicture). seen_answers s.number q s.unsound.items) c.fill.ensures.value
          ∙ kept_sound s.number s.builder s.unsound.items c.self.invariant i lt none c.args.self.now c.self.view_is (answered c.args.done) refl same c.in-Ok.coeffs c.in-Ok.is;
    }

pub index_mut-requires : goal.index_mut-requires
index_mut-requires c = grind (arith, parameters_exactly)

pub returns : goal.returns
returns c =
    let s = c.self.inside in
    let i = c.args.done.job.index in
    let same : same_parameters s.builder.parameters (parameters_of c.args.done.job.plan) ≡ true = sym c.has_plan.ensures ∙ c.if-not-has_plan.false in
    let own = (parameters_exactly s.builder.parameters (parameters_of c.args.done.job.plan)).0 same in
    let lt = subst (λ (q : Parameters). i < slice_count q) (sym own) c.args.done.job.in_plan in
    let none = still_none s.builder s.unsound.items c.self.invariant s.number i c.args.self.now c.self.view_is c.requires.once in
    record {
      value = kept_unsound s.number s.builder s.unsound.items c.self.invariant i lt none c.args.self.now c.self.view_is (answered c.args.done) refl same c.in-Err.why c.in-Err.is;
    }

use Rattle.std.proofs.Common.{◌≡◌, ℕ, List, [], Some, length, sym, ap, subst, ◌∙◌, arith}
use Rattle.std.specs.Prelude.{◌+◌, slice_index_or, slice_set}
use Rattle.std.proofs.lemmas.List.{get_or_default}
use Rattle.picture_build.specs.Kept.{PartPicture}
use Rattle.link_pictures.specs.SeenAnswers.{seen_answers}
use Rattle.link_pictures.proofs.CompletedSlices.{none_is}
use Rattle.link_pictures.proofs.RunAnswers.{slice-free, slice-inside, slice-sound, slice-unsound, slice-whole}
use Rattle.vc_types.specs.Slices.{slice_coefficients, slice_length}
use Rattle.link_pictures.proofs.picture.PictureSlices.make_slice.Goals as goal

pub put-requires-clause-in_plan : goal.put-requires-clause-in_plan
put-requires-clause-in_plan c =
    let s = c.self.inside in
    slice-inside s.number s.builder s.unsound.items c.self.invariant c.args.self.now c.self.view_is c.args.job.now c.args.k c.requires
    (sym c.has_plan.ensures ∙ c.if-not-has_plan.false) (none_is _ (sym c.has.ensures ∙ c.if-has.false))

pub put-requires-clause-once : goal.put-requires-clause-once
put-requires-clause-once c =
    let s = c.self.inside in
    slice-free s.number s.builder s.unsound.items c.self.invariant c.args.self.now c.self.view_is c.args.job.now c.args.k c.requires
    (sym c.has_plan.ensures ∙ c.if-not-has_plan.false) (none_is _ (sym c.has.ensures ∙ c.if-has.false))

pub put-requires-clause-whole : goal.put-requires-clause-whole
put-requires-clause-whole c =
    let s = c.self.inside in
    let job = c.args.job.now in
    let bytes : c.as_slice.result.now ≡ slice_index_or job.slices.items c.args.k [] = c.as_slice.ensures ∙ c.index.ensures ∙ get_or_default job.slices.items c.args.k c.index.result.now [] c.requires in
    subst (λ (b : List ℕ). slice_length s.builder.parameters.prefix s.builder.parameters.scaler b ≡ Some (length b)) (sym bytes)
    (slice-whole s.number s.builder s.unsound.items c.self.invariant c.args.self.now c.self.view_is job c.args.k c.requires
    (sym c.has_plan.ensures ∙ c.if-not-has_plan.false) (none_is _ (sym c.has.ensures ∙ c.if-has.false)))

pub index_mut-requires : goal.index_mut-requires
index_mut-requires c =
    let s = c.self.inside in
    let inside = slice-inside s.number s.builder s.unsound.items c.self.invariant c.args.self.now c.self.view_is c.args.job.now c.args.k c.requires
    (sym c.has_plan.ensures ∙ c.if-not-has_plan.false) (none_is _ (sym c.has.ensures ∙ c.if-has.false)) in
    omega (arith, inside, c.self.invariant.unsound_entries)

pub returns-in-Ok : goal.returns-in-Ok
returns-in-Ok c =
    let s = c.self.inside in
    let job = c.args.job.now in
    let bytes : c.as_slice.result.now ≡ slice_index_or job.slices.items c.args.k [] = c.as_slice.ensures ∙ c.index.ensures ∙ get_or_default job.slices.items c.args.k c.index.result.now [] c.requires in
    let put = c.in-Ok.ensures.value in
    record {
      value = ap (λ (q : PartPicture). seen_answers s.number q s.unsound.items) put.2
          ∙ slice-sound s.number s.builder s.unsound.items c.self.invariant c.args.self.now c.self.view_is job c.args.k c.requires
          (sym c.has_plan.ensures ∙ c.if-not-has_plan.false) (none_is _ (sym c.has.ensures ∙ c.if-has.false))
          put.0 (ap (slice_coefficients s.builder.parameters (job.first + c.args.k)) (sym bytes) ∙ put.1);
    }

pub returns-in-Err-Unsound : goal.returns-in-Err-Unsound
returns-in-Err-Unsound c =
    let s = c.self.inside in
    let job = c.args.job.now in
    let bytes : c.as_slice.result.now ≡ slice_index_or job.slices.items c.args.k [] = c.as_slice.ensures ∙ c.index.ensures ∙ get_or_default job.slices.items c.args.k c.index.result.now [] c.requires in
    let put = rw c.in-Err-Unsound.field-0-is at c.in-Err-Unsound.ensures.value in
    record {
      value = ap (λ (q : PartPicture). seen_answers s.number q (slice_set s.unsound.items (job.first + c.args.k) (Some c.in-Err-Unsound.why))) put.1
          ∙ slice-unsound s.number s.builder s.unsound.items c.self.invariant c.args.self.now c.self.view_is job c.args.k c.requires
          (sym c.has_plan.ensures ∙ c.if-not-has_plan.false) (none_is _ (sym c.has.ensures ∙ c.if-has.false))
          c.in-Err-Unsound.why (ap (slice_coefficients s.builder.parameters (job.first + c.args.k)) (sym bytes) ∙ put.0);
    }

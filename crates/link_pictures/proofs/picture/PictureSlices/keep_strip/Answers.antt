use Rattle.std.proofs.Common.{◌≡◌, ◌+◌, ◌<◌, ◌≤◌, ℕ, true, false, length, sym, ap, subst, ◌∙◌, arith, rules}
use Rattle.std.proofs.lemmas.List.FromFn.{length-map-range_with_len}
use Rattle.picture_build.proofs.KeptRuns.{run-inside}
use Rattle.picture_build.proofs.RunSlices.{together-sound}
use Rattle.picture_build.specs.Kept.{PartPicture, with_run}
use Rattle.receiver_model.specs.Receptions.{PictureAnswers, takes_new}
use Rattle.link_slices.specs.Jobs.{made_run}
use Rattle.link_pictures.specs.SeenAnswers.{HasEntries, seen_answers}
use Rattle.link_pictures.proofs.RunAnswers.{foreign_run, run_entries, strip_run}
use Rattle.link_pictures.proofs.SeenSlots.{still_none, unanswered}
use Rattle.vc_slice.specs.Strips.{IsStripOf, strip_slice, strip_slices}
use Rattle.vc_types.specs.SameValues.{same_parameters}
use Rattle.vc_types.specs.SliceCoefficients.{AreSliceCoefficients}
use Rattle.vc_types.specs.Slices.{Coefficients}
use Rattle.vc_types.specs.Subbands.{slice_count}
use Rattle.vc_types.specs.TransformParameters.{Parameters, parameters_of}
use Rattle.vc_types.proofs.SameValues.{parameters_exactly}
use Rattle.link_pictures.proofs.picture.PictureSlices.keep_strip.Goals as goal

abbrev AreSoundCuts : Parameters → ℕ → ℕ → Coefficients → Type 0
AreSoundCuts p first count strip =
    (k : ℕ) → k < count → AreSliceCoefficients p (first + k) (strip_slice p first count strip (first + k))

pub returns-then-not-has_plan : goal.returns-then-not-has_plan
returns-then-not-has_plan c =
    let s = c.self.inside in
    let other : same_parameters s.builder.parameters (parameters_of c.args.job.now.plan) ≡ false = sym c.has_plan.ensures ∙ c.if-not-has_plan.true in
    record {
      value = sym (foreign_run c.args.self.now c.args.job.now (subst (λ (a : PictureAnswers). same_parameters a.parameters (parameters_of c.args.job.now.plan) ≡ false) c.self.view_is other));
    }

pub fill_run-requires-clause-run : goal.fill_run-requires-clause-run
fill_run-requires-clause-run c =
    let job = c.args.job.now in
    let long : c.len.result ≡ length job.slices.items = search rules in
    let same : c.self.inside.builder.parameters ≡ parameters_of job.plan = (parameters_exactly _ _).0 (sym c.has_plan.ensures ∙ c.if-not-has_plan.false) in
    rw (same, long) job.run

pub fill_run-requires-clause-once : goal.fill_run-requires-clause-once
fill_run-requires-clause-once c = λ k h.
    let s = c.self.inside in
    let i = c.args.job.now.first + k in
    let long : c.len.result ≡ length c.args.job.now.slices.items = search rules in
    (unanswered s.builder s.unsound.items i
    (still_none s.builder s.unsound.items c.self.invariant s.number i c.args.self.now c.self.view_is (c.has_none.ensures c.if-not-has_none.false k (subst (λ (n : ℕ). k < n) long h)))).0

pub fill_run-requires-clause-whole : goal.fill_run-requires-clause-whole
fill_run-requires-clause-whole c =
    let job = c.args.job.now in
    let long : c.len.result ≡ length job.slices.items = search rules in
    let same = (parameters_exactly _ _).0 (sym c.has_plan.ensures ∙ c.if-not-has_plan.false) in
    subst (λ (p : Parameters). IsStripOf p job.first c.len.result c.args.strip) (sym same)
    (subst (λ (n : ℕ). IsStripOf (parameters_of job.plan) job.first n c.args.strip) (sym long) c.requires.whole)

pub fill_run-requires-clause-sound : goal.fill_run-requires-clause-sound
fill_run-requires-clause-sound c =
    let job = c.args.job.now in
    let long : c.len.result ≡ length job.slices.items = search rules in
    let same = (parameters_exactly _ _).0 (sym c.has_plan.ensures ∙ c.if-not-has_plan.false) in
    subst (λ (p : Parameters). AreSoundCuts p job.first c.len.result c.args.strip) (sym same)
    (subst (λ (n : ℕ). AreSoundCuts (parameters_of job.plan) job.first n c.args.strip) (sym long)
    (together-sound (parameters_of job.plan) job.first job.slices.items c.args.strip c.requires.decoded))

pub invariant_of-self : goal.invariant_of-self
invariant_of-self c =
    let s = c.self.inside in
    let job = c.args.job.now in
    subst (λ (q : PartPicture). HasEntries q s.unsound.items) (sym c.fill_run.ensures.value)
    (run_entries s.builder s.unsound.items job.first (strip_slices s.builder.parameters job.first c.len.result c.args.strip) c.self.invariant)

pub returns : goal.returns
returns c =
    let s = c.self.inside in
    let job = c.args.job.now in
    let p = parameters_of job.plan in
    let count = length job.slices.items in
    let counted : c.len.result ≡ count = search rules in
    let is : same_parameters s.builder.parameters p ≡ true = sym c.has_plan.ensures ∙ c.if-not-has_plan.false in
    let same : s.builder.parameters ≡ p = (parameters_exactly s.builder.parameters p).0 is in
    let cuts = strip_slices p job.first count c.args.strip in
    let long : length cuts ≡ count = length-map-range_with_len (strip_slice p job.first count c.args.strip) job.first count in
    let in_picture : job.first + count ≤ slice_count p = run-inside p job.first count job.run in
    let inside : job.first + length cuts ≤ slice_count s.builder.parameters =
    subst (λ (q : Parameters). job.first + length cuts ≤ slice_count q) (sym same) (omega (arith, in_picture, long)) in
    record {
      value = ap (λ (q : PartPicture). seen_answers s.number q s.unsound.items)
          (c.fill_run.ensures.value
          ∙ ap (λ (n : ℕ). with_run s.builder job.first (strip_slices s.builder.parameters job.first n c.args.strip)) counted
          ∙ ap (λ (q : Parameters). with_run s.builder job.first (strip_slices q job.first count c.args.strip)) same)
          ∙ strip_run s.number s.unsound.items s.builder job cuts long c.requires.decoded c.self.invariant is inside
          (λ k h. still_none s.builder s.unsound.items c.self.invariant s.number (job.first + k) c.args.self.now c.self.view_is (c.has_none.ensures c.if-not-has_none.false k (omega (arith, h, long))))
          ∙ ap (λ (a : PictureAnswers). takes_new a (made_run job)) c.self.view_is;
    }

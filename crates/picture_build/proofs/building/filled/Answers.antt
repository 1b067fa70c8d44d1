use Rattle.std.proofs.Common.{arith, sym, ap, subst, ◌∙◌, ◌≡◌, ◌+◌}
use Rattle.std.specs.Prelude.{slice_index_or}
use Rattle.std.proofs.lemmas.List.{get_or_default}
use Rattle.vc_types.specs.SliceCoefficients.{AreSliceCoefficients}
use Rattle.vc_types.specs.Subbands.{slice_count}
use Rattle.vc_types.specs.TransformParameters.{Parameters, parameters_of}
use Rattle.picture_build.specs.Kept.{no_coefficients}
use Rattle.picture_build.proofs.FilledSlices.{FirstCame, none_came, one_more_came, all_came}
use Rattle.picture_build.proofs.building.filled.Goals as goal

pub loop-slice-init : goal.loop-slice-init
loop-slice-init c =
    let p = parameters_of c.args.plan.now in
    subst (FirstCame p c.args.slices.now 0) (sym c.in_ok-builder.ensures.value) (none_came p c.args.slices.now)

pub fill-requires-clause-in_plan : goal.fill-requires-clause-in_plan
fill-requires-clause-in_plan c =
    let same = ap slice_count c.loop-slice.invariant.parameters in
    omega (arith, same, c.requires.count, c.loop-slice-test.true)

pub fill-requires-clause-once : goal.fill-requires-clause-once
fill-requires-clause-once c = c.loop-slice.invariant.others c.loop-slice.slice (omega arith)

pub fill-requires-clause-whole : goal.fill-requires-clause-whole
fill-requires-clause-whole c =
    let s = c.index-slices-slice.result in
    let whole = c.requires.whole c.loop-slice.slice s c.loop-slice-test.true in
    subst (λ (p : Parameters). AreSliceCoefficients p c.loop-slice.slice s) (sym c.loop-slice.invariant.parameters)
    (subst (AreSliceCoefficients (parameters_of c.args.plan.now) c.loop-slice.slice) (sym c.index-slices-slice.is) whole)

pub loop-slice-preserved : goal.loop-slice-preserved
loop-slice-preserved c =
    let p = parameters_of c.args.plan.now in
    let n = c.loop-slice.slice in
    let s = c.index-slices-slice.result in
    let own : slice_index_or c.args.slices.now n no_coefficients ≡ s =
    get_or_default c.args.slices.now n no_coefficients s c.loop-slice-test.true ∙ sym c.index-slices-slice.is in
    subst (FirstCame p c.args.slices.now (n + 1)) (sym c.fill.ensures.value)
    (one_more_came p c.args.slices.now n c.loop-slice.builder s (omega (arith, c.requires.count, c.loop-slice-test.true)) own c.loop-slice.invariant)

pub returns : goal.returns
returns c =
    let p = parameters_of c.args.plan.now in
    let done : c.loop-slice.slice ≡ slice_count p = omega (arith, c.requires.count) in
    all_came p c.args.slices.now c.loop-slice.builder c.requires.count
    (subst (λ n. FirstCame p c.args.slices.now n c.loop-slice.builder) done c.loop-slice.invariant)

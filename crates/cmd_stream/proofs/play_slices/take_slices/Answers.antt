use Rattle.std.proofs.Common.{◌≡◌, ◌-◌, ◌<◌, ◌++◌, ◌∷◌, [], List, length, Ok, ◌∙◌, arith, refl, sym, ap, length-append}
use Rattle.vc_types.specs.Pictures.{slices_from}
use Rattle.vc_types.specs.Slices.{Coefficients}
use Rattle.vc_types.specs.Subbands.{slice_count}
use Rattle.vc_types.specs.TransformParameters.{parameters_of}
use Rattle.cmd_stream.specs.Slices.{slices_behind}
use Rattle.cmd_stream.proofs.SliceRuns.{behind-nothing, behind-slice, behind-refused, behind-last}
use Rattle.cmd_stream.proofs.FirstSlices.{first_none, next_awaited, first_more, first_all, first_whole}
use Rattle.cmd_stream.proofs.play_slices.take_slices.Goals as goal

pub loop-index-init : goal.loop-index-init
loop-index-init c =
    let p = parameters_of c.args.head.now.plan in
    let all : slice_count p - 0 ≡ slice_count p = omega arith in
    ([], sym (ap (λ n. slices_behind [] (slices_from p 0 n c.as_slice-rest.result.now)) all ∙ behind-nothing _ ∙ ap (slices_from p 0 (slice_count p)) c.as_slice-rest.ensures), refl, first_none p c.args.builder.now c.requires)

pub take_slice-requires-clause-plan : goal.take_slice-requires-clause-plan
take_slice-requires-clause-plan c = c.loop-index.invariant.3.parameters

pub take_slice-requires-clause-once : goal.take_slice-requires-clause-once
take_slice-requires-clause-once c = next_awaited (parameters_of c.args.head.now.plan) c.loop-index.invariant.0 c.loop-index.builder c.loop-index.invariant.3 c.loop-index.index c.loop-index.invariant.2

pub returns-in-None : goal.returns-in-None
returns-in-None c =
    let p = parameters_of c.args.head.now.plan in
    let gave = rw c.in-None.is at c.in_ok-behind.ensures.value in
    record { value = c.loop-index.invariant.1 ∙ behind-refused p c.loop-index.index (slice_count p) c.loop-index.rest.now [] c.loop-index.invariant.0 (omega (arith, c.loop-index-test.true)) gave }

pub loop-index-preserved : goal.loop-index-preserved
loop-index-preserved c =
    let p = parameters_of c.args.head.now.plan in
    let first = c.loop-index.invariant.0 in
    let took = rw c.in-Some.is at c.in_ok-behind.ensures.value in
    let below : c.loop-index.index < slice_count p = omega (arith, c.loop-index-test.true) in
    let count = length-append first (took.0 ∷ []) in (
      first ++ took.0 ∷ [],
      c.loop-index.invariant.1 ∙ behind-slice p c.loop-index.index (slice_count p) c.loop-index.rest.now c.in-Some.behind.now first took.0 below took.1,
      omega (arith, count, c.loop-index.invariant.2),
      first_more p first c.loop-index.builder c.loop-index.invariant.3 c.loop-index.index took.0 c.take_slice.new.builder c.loop-index.invariant.2 below took.2,
    )

pub returns : goal.returns
returns c = record {
  value = record {
    rest = c.loop-index.rest.now;
    read =
        let p = parameters_of c.args.head.now.plan in
        let whole : length c.loop-index.invariant.0 ≡ slice_count p = omega (arith, c.loop-index.invariant.2, c.loop-index-test.false) in
        c.loop-index.invariant.1 ∙ behind-last p c.loop-index.index (slice_count p) c.loop-index.rest.now c.loop-index.invariant.0 (omega (arith, c.loop-index-test.false))
        ∙ ap (λ (all : List Coefficients). Ok (all, c.loop-index.rest.now)) (sym (first_all p c.loop-index.invariant.0 c.loop-index.builder c.loop-index.invariant.3 whole));
    whole =
        let p = parameters_of c.args.head.now.plan in
        first_whole p c.loop-index.invariant.0 c.loop-index.builder c.loop-index.invariant.3 (omega (arith, c.loop-index.invariant.2, c.loop-index-test.false));
    parameters = c.loop-index.invariant.3.parameters;
  };
}

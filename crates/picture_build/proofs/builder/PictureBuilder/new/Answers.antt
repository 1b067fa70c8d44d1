use Rattle.std.proofs.Common.{rules, refl, ◌≡◌, false}
use Rattle.std.specs.Prelude.{replicate}
use Rattle.vc_types.specs.Subbands.{slice_count}
use Rattle.vc_types.specs.TransformParameters.{parameters_of}
use Rattle.picture_build.proofs.WaitingRuns.{waiting-begun, seen-begun}
use Rattle.picture_build.proofs.builder.PictureBuilder.new.Goals as goal

pub invariant_of-result : goal.invariant_of-result
invariant_of-result c =
    let p = parameters_of c.args.plan in
    let none : c.in_ok-came.came.items ≡ replicate (slice_count p) false = search rules in
    waiting-begun p c.in_ok-placed.placed c.new-2.result c.in_ok-came.came.items (slice_count p) c.in_ok-placed.ensures.value c.new-2.ensures none refl

pub returns : goal.returns
returns c =
    let p = parameters_of c.args.plan in
    let none : c.in_ok-came.came.items ≡ replicate (slice_count p) false = search rules in
    record { value = seen-begun p c.in_ok-placed.placed c.new-2.result c.in_ok-came.came.items (slice_count p) c.in_ok-placed.ensures.value c.new-2.ensures none refl }

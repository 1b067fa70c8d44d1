use Rattle.std.proofs.Common.{◌≡◌, ◌+◌, ◌∙◌, ℕ, List, [], Some, length, arith, sym, ap, subst}
use Rattle.std.specs.Prelude.{slice_index_or}
use Rattle.std.proofs.lemmas.List.{get_or_default}
use Rattle.std.proofs.lemmas.List.Elements.{All-get_or}
use Rattle.vc_types.specs.Slices.{slice_coefficients, slice_length}
use Rattle.vc_types.specs.declared.video.Component.TheVariants.{Y}
use Rattle.vc_types.specs.TransformParameters.{parameters_of}
use Rattle.vc_types.proofs.SliceCounts.{some_across, some_down}
use Rattle.vc_geometry.proofs.RunPlaces.{numbered, slice-fewer}
use Rattle.vc_slice.proofs.RunDecodings.{decoded-more, strip-decoded}
use Rattle.vc_slice.proofs.run_decoding.strip_each.Goals as goal

pub new-parts-requires : goal.new-parts-requires
new-parts-requires c = numbered (parameters_of c.args.run.now.plan) Y c.args.run.now.first c.args.run.now.count c.args.run.now.run c.loop-k.k (omega arith)

pub put_slice-requires-clause-own : goal.put_slice-requires-clause-own
put_slice-requires-clause-own c = record { plan = c.new-parts.ensures.plan; slice = record { from = omega (arith, c.new-parts.ensures.slice); to = omega (arith, c.new-parts.ensures.slice) } }

pub put_slice-requires-clause-whole : goal.put_slice-requires-clause-whole
put_slice-requires-clause-whole c =
    let plan = c.args.run.now.plan in
    let bytes : c.as_slice-bytes.result.now ≡ slice_index_or c.args.slices.now c.loop-k.k [] = c.as_slice-bytes.ensures ∙ c.index-slices-k.is ∙ get_or_default c.args.slices.now c.loop-k.k c.index-slices-k.result [] (omega arith) in
    let own = All-get_or (λ (b : List ℕ). slice_length plan.prefix plan.scaler b ≡ Some (length b)) c.args.slices.now c.loop-k.k [] (omega arith) c.requires.whole in
    rw c.new-parts.ensures.plan (subst (λ (b : List ℕ). slice_length plan.prefix plan.scaler b ≡ Some (length b)) (sym bytes) own)

pub put_slice-requires-clause-room : goal.put_slice-requires-clause-room
put_slice-requires-clause-room c = λ k.
    let fewer = slice-fewer (parameters_of c.args.run.now.plan) k c.args.run.now.first c.args.run.now.count c.args.run.now.run c.loop-k.k (omega arith) in
    rw (c.new-parts.ensures.plan, c.new-parts.ensures.slice) (omega (arith, fewer, c.requires.room k, c.loop-k.invariant.numbers))

pub loop-k-preserved : goal.loop-k-preserved
loop-k-preserved c =
    let run = c.args.run.now in
    let plan = run.plan in
    let bytes : c.as_slice-bytes.result.now ≡ slice_index_or c.args.slices.now c.loop-k.k [] = c.as_slice-bytes.ensures ∙ c.index-slices-k.is ∙ get_or_default c.args.slices.now c.loop-k.k c.index-slices-k.result [] (omega arith) in
    record {
      decoded = decoded-more (parameters_of plan) (some_across plan.slices_x plan.slices_y plan.slices) (some_down plan.slices_x plan.slices_y plan.slices) run.first run.count c.args.slices.now run.run c.loop-k.k (omega arith)
          c.loop-k.y c.loop-k.c1 c.loop-k.c2 c.put_slice.new.y c.put_slice.new.c1 c.put_slice.new.c2
          (rw (c.new-parts.ensures.plan, c.new-parts.ensures.slice) at c.put_slice.ensures.y) (rw (c.new-parts.ensures.plan, c.new-parts.ensures.slice) at c.put_slice.ensures.c1) (rw (c.new-parts.ensures.plan, c.new-parts.ensures.slice) at c.put_slice.ensures.c2)
          (ap (slice_coefficients (parameters_of plan) (run.first + c.loop-k.k)) (sym bytes) ∙ (rw c.new-parts.ensures.slice at c.in_ok-put_slice.ensures.value)) c.loop-k.invariant.decoded;
      numbers = c.put_slice.auto.numbers ∙ c.loop-k.invariant.numbers;
      y = c.put_slice.auto.y ∙ c.loop-k.invariant.y;
      c1 = c.put_slice.auto.c1 ∙ c.loop-k.invariant.c1;
      c2 = c.put_slice.auto.c2 ∙ c.loop-k.invariant.c2;
    }

pub returns : goal.returns
returns c = record {
  value = strip-decoded (parameters_of c.args.run.now.plan) c.args.run.now.first c.args.run.now.count c.args.slices.now _ c.requires.count (λ k h. c.loop-k.invariant.decoded k (omega (arith, h)));
}

use Rattle.std.proofs.Common.{◌-◌, arith, ◌∙◌}
use Rattle.std.proofs.lemmas.List.{length-set}
use Rattle.vc_types.specs.TransformParameters.{parameters_of}
use Rattle.vc_geometry.proofs.RunPlaces.{numbered}
use Rattle.vc_geometry.proofs.RunParts.{ordered, run_part_more}
use Rattle.vc_geometry.proofs.runs.run_rects.Goals as goal

pub slice_rects-requires-2-clause-slice : goal.slice_rects-requires-2-clause-slice
slice_rects-requires-2-clause-slice c = numbered (parameters_of c.args.plan.now) c.args.c c.args.first c.args.count c.requires.run (c.args.count - 1) (omega arith)

pub overflow_sub-rects : goal.overflow_sub-rects
overflow_sub-rects c =
    ordered (parameters_of c.args.plan.now) c.args.c c.args.first c.args.count c.requires.run c.loop-b.b (c.args.count - 1) (omega arith) _ _
    (c.slice_rects.ensures.parts c.loop-b.b _ (omega arith)) (c.slice_rects-2.ensures.parts c.loop-b.b _ (omega arith))

pub loop-b-preserved : goal.loop-b-preserved
loop-b-preserved c =
    let b = c.loop-b.b in
    record {
      parts = run_part_more (parameters_of c.args.plan.now) c.args.c c.args.first c.args.count c.requires.run b (c.args.count - 1) (omega arith) _ _
          (c.slice_rects.ensures.parts b _ (omega arith)) (c.slice_rects-2.ensures.parts b _ (omega arith)) c.loop-b.rects (omega (arith, c.loop-b.invariant.long, c.requires.room))
          (c.slice_rects-2.ensures.right b _ (omega arith)) (c.slice_rects.ensures.bottom b _ (omega arith))
          ((c.slice_rects-2.ensures.small b _ (omega arith)).0, (c.slice_rects.ensures.small b _ (omega arith)).1) c.loop-b.invariant.parts;
      long = length-set c.loop-b.rects b _ ∙ c.loop-b.invariant.long;
    }

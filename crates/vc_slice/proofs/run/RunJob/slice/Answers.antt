use Rattle.std.proofs.Common.{◌≡◌, [], length, arith, sym, subst, ◌∙◌}
use Rattle.std.proofs.lemmas.List.{get_or_default}
use Rattle.std.specs.Prelude.{slice_index_or}
use Rattle.vc_types.specs.TransformParameters.{parameters_of}
use Rattle.vc_types.specs.declared.video.Component.TheVariants.{Y}
use Rattle.vc_geometry.proofs.RunPlaces.{numbered}
use Rattle.vc_slice.proofs.RunJobs.{IsWholeSlice, index-fits}
use Rattle.vc_slice.proofs.run.RunJob.slice.Goals as goal

pub overflow_add-result : goal.overflow_add-result
overflow_add-result c = omega (arith, index-fits c.args.self.now c.args.k c.requires)

pub invariant_of-result : goal.invariant_of-result
invariant_of-result c =
    let run = c.args.self.now in
    let bytes : c.in-Ok.bytes ≡ slice_index_or run.slices.items c.args.k [] =
    c.in-Ok.ensures.cases ∙ c.index.ensures ∙ get_or_default run.slices.items c.args.k c.index.result.now [] c.requires in
    let one : IsWholeSlice (parameters_of run.plan) c.in-Ok.bytes =
    subst (IsWholeSlice (parameters_of run.plan)) (sym bytes) (run.whole c.args.k [] c.requires) in
    record {
      whole = one;
      in_plan = numbered (parameters_of run.plan) Y run.first (length run.slices.items) run.run c.args.k c.requires;
    }

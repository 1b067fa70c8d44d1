use Rattle.std.proofs.Common.{length, ap, sym, subst, ◌∙◌}
use Rattle.vc_types.specs.TransformParameters.{parameters_of}
use Rattle.vc_types.proofs.SliceCounts.{some_across, some_down}
use Rattle.picture_build.specs.Kept.{PartPicture}
use Rattle.picture_build.specs.Waiting.{MayAllCome, with_runs}
use Rattle.picture_build.proofs.SeenSlices.{seen}
use Rattle.picture_build.proofs.WaitingRuns.{runs-inside, runs-of, runs-placed}
use Rattle.picture_build.proofs.placed.PlacedSlices.place.Goals as goal

pub place_runs-requires-clause-runs : goal.place_runs-requires-clause-runs
place_runs-requires-clause-runs c =
    let s = c.self.inside in
    runs-of (seen (parameters_of s.plan) s.came.items s.y s.c1 s.c2) c.args.runs.now
    (subst (λ (q : PartPicture). MayAllCome q c.args.runs.now) (sym c.self.view_is) c.requires)

pub place_runs-requires-2-clause-runs : goal.place_runs-requires-2-clause-runs
place_runs-requires-2-clause-runs c =
    let s = c.self.inside in
    runs-of (seen (parameters_of s.plan) s.came.items s.y s.c1 s.c2) c.args.runs.now
    (subst (λ (q : PartPicture). MayAllCome q c.args.runs.now) (sym c.self.view_is) c.requires)

pub place_runs-requires-3-clause-runs : goal.place_runs-requires-3-clause-runs
place_runs-requires-3-clause-runs c =
    let s = c.self.inside in
    runs-of (seen (parameters_of s.plan) s.came.items s.y s.c1 s.c2) c.args.runs.now
    (subst (λ (q : PartPicture). MayAllCome q c.args.runs.now) (sym c.self.view_is) c.requires)

pub mark_runs-requires : goal.mark_runs-requires
mark_runs-requires c =
    let s = c.self.inside in
    let p = parameters_of s.plan in
    runs-inside p c.args.runs.now (length s.came.items) c.self.invariant.entries
    (runs-of (seen p s.came.items s.y s.c1 s.c2) c.args.runs.now
    (subst (λ (q : PartPicture). MayAllCome q c.args.runs.now) (sym c.self.view_is) c.requires))

pub invariant_of-self : goal.invariant_of-self
invariant_of-self c =
    let s = c.self.inside in
    let p = parameters_of s.plan in
    (runs-placed p (some_across s.plan.slices_x s.plan.slices_y s.plan.slices) (some_down s.plan.slices_x s.plan.slices_y s.plan.slices) (length s.numbers.items)
    c.args.runs.now s.came.items c.mark_runs.new.came.items s.y s.c1 s.c2 c.place_runs.new.cells c.place_runs-2.new.cells c.place_runs-3.new.cells c.self.invariant
    (subst (λ (q : PartPicture). MayAllCome q c.args.runs.now) (sym c.self.view_is) c.requires)
    c.place_runs.ensures c.place_runs-2.ensures c.place_runs-3.ensures c.mark_runs.ensures).0

pub returns : goal.returns
returns c =
    let s = c.self.inside in
    let p = parameters_of s.plan in
    record {
      value = (runs-placed p (some_across s.plan.slices_x s.plan.slices_y s.plan.slices) (some_down s.plan.slices_x s.plan.slices_y s.plan.slices) (length s.numbers.items)
          c.args.runs.now s.came.items c.mark_runs.new.came.items s.y s.c1 s.c2 c.place_runs.new.cells c.place_runs-2.new.cells c.place_runs-3.new.cells c.self.invariant
          (subst (λ (q : PartPicture). MayAllCome q c.args.runs.now) (sym c.self.view_is) c.requires)
          c.place_runs.ensures c.place_runs-2.ensures c.place_runs-3.ensures c.mark_runs.ensures).1
          ∙ ap (λ (q : PartPicture). with_runs q c.args.runs.now) c.self.view_is;
    }

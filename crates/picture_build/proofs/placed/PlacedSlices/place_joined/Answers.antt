use Rattle.std.proofs.Common.{length, ap, sym, subst, ◌∙◌}
use Rattle.vc_types.specs.TransformParameters.{parameters_of}
use Rattle.vc_types.proofs.SliceCounts.{some_across, some_down}
use Rattle.picture_build.specs.Kept.{PartPicture}
use Rattle.picture_build.specs.Waiting.{MayAllCome, with_runs}
use Rattle.picture_build.proofs.SeenSlices.{seen}
use Rattle.picture_build.proofs.WaitingRuns.{runs-inside, runs-of, runs-placed}
use Rattle.picture_build.proofs.placed.PlacedSlices.place_joined.Goals as goal

pub place_runs_joined-requires-clause-runs : goal.place_runs_joined-requires-clause-runs
place_runs_joined-requires-clause-runs g c =
    let s = c.self.inside in
    runs-of (seen (parameters_of s.plan) s.came.items s.y s.c1 s.c2) c.args.runs.now
    (subst (λ (q : PartPicture). MayAllCome q c.args.runs.now) (sym c.self.view_is) c.requires)

pub mark_runs-requires : goal.mark_runs-requires
mark_runs-requires g c =
    let s = c.self.inside in
    let p = parameters_of s.plan in
    runs-inside p c.args.runs.now (length s.came.items) c.self.invariant.entries
    (runs-of (seen p s.came.items s.y s.c1 s.c2) c.args.runs.now
    (subst (λ (q : PartPicture). MayAllCome q c.args.runs.now) (sym c.self.view_is) c.requires))

pub invariant_of-self : goal.invariant_of-self
invariant_of-self g c =
    let s = c.self.inside in
    let p = parameters_of s.plan in
    (runs-placed p (some_across s.plan.slices_x s.plan.slices_y s.plan.slices) (some_down s.plan.slices_x s.plan.slices_y s.plan.slices) (length s.numbers.items)
    c.args.runs.now s.came.items c.mark_runs.new.came.items s.y s.c1 s.c2 c.place_runs_joined.new.y c.place_runs_joined.new.c1 c.place_runs_joined.new.c2 c.self.invariant
    (subst (λ (q : PartPicture). MayAllCome q c.args.runs.now) (sym c.self.view_is) c.requires)
    c.place_runs_joined.ensures.y c.place_runs_joined.ensures.c1 c.place_runs_joined.ensures.c2 c.mark_runs.ensures).0

pub returns : goal.returns
returns g c =
    let s = c.self.inside in
    let p = parameters_of s.plan in
    record {
      value = (runs-placed p (some_across s.plan.slices_x s.plan.slices_y s.plan.slices) (some_down s.plan.slices_x s.plan.slices_y s.plan.slices) (length s.numbers.items)
          c.args.runs.now s.came.items c.mark_runs.new.came.items s.y s.c1 s.c2 c.place_runs_joined.new.y c.place_runs_joined.new.c1 c.place_runs_joined.new.c2 c.self.invariant
          (subst (λ (q : PartPicture). MayAllCome q c.args.runs.now) (sym c.self.view_is) c.requires)
          c.place_runs_joined.ensures.y c.place_runs_joined.ensures.c1 c.place_runs_joined.ensures.c2 c.mark_runs.ensures).1
          ∙ ap (λ (q : PartPicture). with_runs q c.args.runs.now) c.self.view_is;
    }

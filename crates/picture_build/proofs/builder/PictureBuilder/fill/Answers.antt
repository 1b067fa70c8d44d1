use Rattle.std.proofs.Common.{arith, sym, subst}
use Rattle.vc_types.specs.SliceCoefficients.{AreSliceCoefficients}
use Rattle.vc_types.specs.TransformParameters.{Parameters}
use Rattle.picture_build.proofs.WaitingRuns.{seen-parameters, seen-in_plan, seen-once, seen-entry, seen-slice, slice-waiting}
use Rattle.picture_build.proofs.builder.PictureBuilder.fill.Goals as goal

pub fill-requires-clause-in_plan : goal.fill-requires-clause-in_plan
fill-requires-clause-in_plan c =
    let s = c.self.inside in
    seen-in_plan s.placed s.runs s.came.items c.self.invariant c.args.self.now c.self.view_is c.args.index c.requires.in_plan c.requires.once

pub fill-requires-clause-once : goal.fill-requires-clause-once
fill-requires-clause-once c =
    let s = c.self.inside in
    seen-once s.placed s.runs s.came.items c.self.invariant c.args.self.now c.self.view_is c.args.index c.requires.in_plan c.requires.once

pub fill-requires-clause-whole : goal.fill-requires-clause-whole
fill-requires-clause-whole c =
    let s = c.self.inside in
    subst (λ (p : Parameters). AreSliceCoefficients p c.args.index c.args.c.now) (sym (seen-parameters s.placed s.runs s.came.items c.self.invariant c.args.self.now c.self.view_is)) c.requires.whole

pub invariant_of-self : goal.invariant_of-self
invariant_of-self c =
    let s = c.self.inside in
    slice-waiting s.placed s.runs s.came.items c.self.invariant c.args.self.now c.self.view_is c.args.index c.requires.in_plan c.requires.once c.args.c.now c.fill.new.self c.fill.ensures.value

pub returns : goal.returns
returns c =
    let s = c.self.inside in
    record { value = seen-slice s.placed s.runs s.came.items c.self.invariant c.args.self.now c.self.view_is c.args.index c.requires.in_plan c.requires.once c.args.c.now c.fill.new.self c.fill.ensures.value }

pub index_mut-requires : goal.index_mut-requires
index_mut-requires c =
    let s = c.self.inside in
    let entry = seen-entry s.placed s.runs s.came.items c.self.invariant c.args.self.now c.self.view_is c.args.index c.requires.in_plan c.requires.once in
    omega (arith, entry, s.came.ok.0)

use Rattle.std.proofs.Common.{arith, ◌≡◌, Some, length, sym, ap, subst, ◌∙◌}
use Rattle.std.specs.Prelude.{Err}
use Rattle.vc_types.specs.Slices.{slice_coefficients, slice_length}
use Rattle.vc_types.specs.TransformParameters.{Parameters}
use Rattle.picture_build.specs.Puts.{Puts}
use Rattle.picture_build.specs.Waiting.{with_runs}
use Rattle.picture_build.proofs.WaitingRuns.{seen-parameters, seen-in_plan, seen-once, seen-entry, seen-slice, slice-waiting, seen-refused, refused-waiting}
use Rattle.picture_build.proofs.builder.PictureBuilder.put.Goals as goal

pub put-requires-clause-in_plan : goal.put-requires-clause-in_plan
put-requires-clause-in_plan c =
    let s = c.self.inside in
    seen-in_plan s.placed s.runs s.came.items c.self.invariant c.args.self.now c.self.view_is c.args.index c.requires.in_plan c.requires.once

pub put-requires-clause-once : goal.put-requires-clause-once
put-requires-clause-once c =
    let s = c.self.inside in
    seen-once s.placed s.runs s.came.items c.self.invariant c.args.self.now c.self.view_is c.args.index c.requires.in_plan c.requires.once

pub put-requires-clause-whole : goal.put-requires-clause-whole
put-requires-clause-whole c =
    let s = c.self.inside in
    subst (λ (p : Parameters). slice_length p.prefix p.scaler c.args.bytes.now ≡ Some (length c.args.bytes.now))
    (sym (seen-parameters s.placed s.runs s.came.items c.self.invariant c.args.self.now c.self.view_is)) c.requires.whole

pub invariant_of-self : goal.invariant_of-self
invariant_of-self c =
    let s = c.self.inside in
    let put = c.in-Ok.ensures.value in
    slice-waiting s.placed s.runs s.came.items c.self.invariant c.args.self.now c.self.view_is c.args.index c.requires.in_plan c.requires.once put.0 c.put.new.self put.2

pub returns-in-Ok : goal.returns-in-Ok
returns-in-Ok c =
    let s = c.self.inside in
    let put = c.in-Ok.ensures.value in
    record {
      value = (
        put.0,
        ap (λ (p : Parameters). slice_coefficients p c.args.index c.args.bytes.now) (sym (seen-parameters s.placed s.runs s.came.items c.self.invariant c.args.self.now c.self.view_is)) ∙ put.1,
        seen-slice s.placed s.runs s.came.items c.self.invariant c.args.self.now c.self.view_is c.args.index c.requires.in_plan c.requires.once put.0 c.put.new.self put.2,
      );
    }

pub invariant_of-self-in-Err : goal.invariant_of-self-in-Err
invariant_of-self-in-Err c =
    let s = c.self.inside in
    refused-waiting s.placed s.runs s.came.items c.self.invariant c.args.self.now c.self.view_is c.args.index c.requires.in_plan c.requires.once
    (slice_coefficients s.placed.parameters c.args.index c.args.bytes.now) c.put.new.self c.in-Err.why c.in-Err.ensures.value

pub returns-in-Err : goal.returns-in-Err
returns-in-Err c =
    let s = c.self.inside in
    record {
      value = subst (λ (p : Parameters). Puts (slice_coefficients p c.args.index c.args.bytes.now) c.args.index c.args.self.now (with_runs c.put.new.self s.runs) (Err c.in-Err.why))
          (seen-parameters s.placed s.runs s.came.items c.self.invariant c.args.self.now c.self.view_is)
          (seen-refused s.placed s.runs s.came.items c.self.invariant c.args.self.now c.self.view_is c.args.index c.requires.in_plan c.requires.once
          (slice_coefficients s.placed.parameters c.args.index c.args.bytes.now) c.put.new.self c.in-Err.why c.in-Err.ensures.value);
    }

pub index_mut-requires : goal.index_mut-requires
index_mut-requires c =
    let s = c.self.inside in
    let entry = seen-entry s.placed s.runs s.came.items c.self.invariant c.args.self.now c.self.view_is c.args.index c.requires.in_plan c.requires.once in
    omega (arith, entry, s.came.ok.0)

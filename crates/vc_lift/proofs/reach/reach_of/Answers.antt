use Rattle.std.proofs.Common.{arith, ap}
use Rattle.std.proofs.lemmas.List.{drop_all}
use Rattle.vc_lift.specs.Reach.{steps_back, steps_ahead}
use Rattle.vc_lift.specs.Steps.{counted_of}
use Rattle.vc_lift.specs.StepLists.{steps_of}
use Rattle.vc_lift.proofs.LineWindows.{back_rest, ahead_rest, reach_small}
use Rattle.vc_lift.proofs.reach.reach_of.Goals as goal

pub loop-i-init : goal.loop-i-init
loop-i-init c = record {
  back = omega (arith, ap steps_back c.synthesis-steps.ensures);
  ahead = omega (arith, ap steps_ahead c.synthesis-steps.ensures);
}

pub overflow_add-back : goal.overflow_add-back
overflow_add-back c =
    let rest = back_rest (steps_of c.synthesis-steps.result) c.loop-i.i (counted_of c.step_at-step.result)
    c.step_at-step.ensures (omega arith) in
    omega (arith, rest, c.loop-i.invariant.back, reach_small c.args.wavelet)

pub overflow_add-ahead : goal.overflow_add-ahead
overflow_add-ahead c =
    let rest = ahead_rest (steps_of c.synthesis-steps.result) c.loop-i.i (counted_of c.step_at-step.result)
    c.step_at-step.ensures (omega arith) in
    omega (arith, rest, c.loop-i.invariant.ahead, reach_small c.args.wavelet)

pub loop-i-preserved : goal.loop-i-preserved
loop-i-preserved c =
    let steps = steps_of c.synthesis-steps.result in
    let s = counted_of c.step_at-step.result in
    let back = back_rest steps c.loop-i.i s c.step_at-step.ensures (omega arith) in
    let ahead = ahead_rest steps c.loop-i.i s c.step_at-step.ensures (omega arith) in
    record {
      back = omega (arith, back, c.loop-i.invariant.back);
      ahead = omega (arith, ahead, c.loop-i.invariant.ahead);
    }

pub returns : goal.returns
unfolding steps_back steps_ahead
returns c =
    let none = drop_all c.loop-i.i (steps_of c.synthesis-steps.result) (omega arith) in
    let back = ap steps_back none in
    let ahead = ap steps_ahead none in
    record {
      back = omega (arith, back, c.loop-i.invariant.back);
      ahead = omega (arith, ahead, c.loop-i.invariant.ahead);
      small = omega (
        arith,
        back,
        ahead,
        c.loop-i.invariant.back,
        c.loop-i.invariant.ahead,
        reach_small c.args.wavelet,
      );
    }

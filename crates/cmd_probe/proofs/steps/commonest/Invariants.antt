use Rattle.std.proofs.Common.{◌≡◌, None, take}
use Rattle.std.specs.Prelude.{fold}
use Rattle.cmd_probe.specs.Steps.{commoner_of}
use Rattle.cmd_probe.proofs.steps.commonest.Given as goal

abbrev pub invariant-loop-step : goal.invariant-loop-step
invariant-loop-step l = l.best ≡ fold commoner_of None (take l.step-index l.steps)

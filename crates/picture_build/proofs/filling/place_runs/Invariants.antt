use Rattle.std.proofs.Common.{take}
use Rattle.vc_types.specs.TransformParameters.{parameters_of}
use Rattle.picture_build.specs.Waiting.{FillsRuns}
use Rattle.picture_build.proofs.filling.place_runs.Given as goal

abbrev pub invariant-loop-waiting : goal.invariant-loop-waiting
invariant-loop-waiting l = FillsRuns (parameters_of l.plan) l.c (take l.waiting-index l.runs) l.initial.cells l.cells

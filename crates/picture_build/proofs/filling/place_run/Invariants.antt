use Rattle.std.proofs.Common.{◌≡◌, length}
use Rattle.vc_types.specs.Lifting.{line_of}
use Rattle.vc_types.specs.TransformParameters.{parameters_of}
use Rattle.vc_geometry.proofs.RunWalk.{run_before}
use Rattle.picture_build.proofs.FilledRuns.{AllSeen, FirstOfRun, OthersOfRun}
use Rattle.picture_build.proofs.filling.place_run.Given as goal

abbrev pub invariant-loop-b : goal.invariant-loop-b
invariant-loop-b l = record {
  from : l.from ≡ run_before (parameters_of l.run.plan) l.run.component l.run.first l.run.count l.b;
  on : FirstOfRun (parameters_of l.run.plan) l.run.component l.run.first l.run.count AllSeen l.strip l.b (line_of l.cells);
  off : OthersOfRun (parameters_of l.run.plan) l.run.component l.run.first l.run.count AllSeen (line_of l.initial.cells) (line_of l.cells);
  length : length l.cells ≡ length l.initial.cells;
}

use Rattle.std.proofs.Common.{◌≡◌, ◌*◌, length}
use Rattle.vc_types.specs.Subbands.{padded_width}
use Rattle.vc_types.specs.TransformParameters.{parameters_of}
use Rattle.vc_geometry.proofs.RunWalk.{run_before}
use Rattle.picture_build.specs.Halves.{LiesAmong}
use Rattle.picture_build.proofs.FilledRuns.{FirstOfRun, OthersOfRun}
use Rattle.picture_build.proofs.HalvedRuns.{line_from}
use Rattle.picture_build.proofs.halves.place_run_in.Given as goal

abbrev pub invariant-loop-b : goal.invariant-loop-b
invariant-loop-b l =
    let p = parameters_of l.run.plan in
    let base = l.rows.top * padded_width p l.run.component in
    let seen = LiesAmong base (length l.initial.cells) in
    record {
      from : l.from ≡ run_before p l.run.component l.run.first l.run.count l.b;
      on : FirstOfRun p l.run.component l.run.first l.run.count seen l.strip l.b (line_from base l.cells);
      off : OthersOfRun p l.run.component l.run.first l.run.count seen (line_from base l.initial.cells) (line_from base l.cells);
      length : length l.cells ≡ length l.initial.cells;
    }

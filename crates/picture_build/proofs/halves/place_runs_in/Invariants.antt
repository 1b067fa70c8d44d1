use Rattle.std.proofs.Common.{◌*◌, take}
use Rattle.vc_types.specs.Subbands.{padded_width}
use Rattle.vc_types.specs.TransformParameters.{parameters_of}
use Rattle.picture_build.specs.Halves.{FillsRunsIn}
use Rattle.picture_build.proofs.halves.place_runs_in.Given as goal

abbrev pub invariant-loop-waiting : goal.invariant-loop-waiting
invariant-loop-waiting l = FillsRunsIn (parameters_of l.plan) l.c (l.rows.top * padded_width (parameters_of l.plan) l.c) (take l.waiting-index l.runs) l.initial.cells l.cells

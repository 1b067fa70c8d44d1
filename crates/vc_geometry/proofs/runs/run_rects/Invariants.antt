use Rattle.std.specs.Prelude.{◌≡◌, length}
use Rattle.vc_types.specs.TransformParameters.{parameters_of}
use Rattle.vc_geometry.specs.Runs.{AreRunParts}
use Rattle.vc_geometry.proofs.runs.run_rects.Given as goal

abbrev pub invariant-loop-b : goal.invariant-loop-b
invariant-loop-b l = record {
  parts : AreRunParts (parameters_of l.plan) l.fn.c l.fn.first l.fn.count l.b l.rects;
  long : length l.rects ≡ length l.initial.rects;
}

use Rattle.std.proofs.Common.{◌≡◌, length}
use Rattle.vc_types.specs.TransformParameters.{parameters_of}
use Rattle.vc_slice.proofs.RunDecodings.{FirstDecoded}
use Rattle.vc_slice.proofs.run_decoding.strip_each.Given as goal

abbrev pub invariant-loop-k : goal.invariant-loop-k
invariant-loop-k l = record {
  decoded : FirstDecoded (parameters_of l.run.plan) l.run.first l.run.count l.slices l.y l.c1 l.c2 l.k;
  numbers : length l.numbers ≡ length l.initial.numbers;
  y : length l.y ≡ length l.initial.y;
  c1 : length l.c1 ≡ length l.initial.c1;
  c2 : length l.c2 ≡ length l.initial.c2;
}

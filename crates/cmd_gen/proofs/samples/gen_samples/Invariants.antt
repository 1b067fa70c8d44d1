use Rattle.std.proofs.Common.{◌≡◌}
use Rattle.cmd_gen.specs.Generator.{generated_samples, state_behind}
use Rattle.cmd_gen.proofs.samples.gen_samples.Given as goal

abbrev pub invariant-loop-i : goal.invariant-loop-i
invariant-loop-i l = record {
  samples : l.samples.items ≡ generated_samples l.depth l.fn.state l.i;
  state : l.state ≡ state_behind l.fn.state l.i;
}

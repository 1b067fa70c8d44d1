use Rattle.vc_lowdelay.specs.Components.{Follow, IsBehind}
use Rattle.vc_lowdelay.proofs.wide.read_subband.Given as goal

abbrev pub invariant-loop-i : goal.invariant-loop-i
invariant-loop-i l = record {
  read : Follow l.c l._i l.fn.block l.quantiser.index l.fn.coefficients.items l.coefficients.items;
  rest : IsBehind l.c l._i l.fn.block l.block;
}

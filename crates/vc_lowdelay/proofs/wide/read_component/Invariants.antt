use Rattle.vc_lowdelay.proofs.ReadComponents.{ReadUpTo}
use Rattle.vc_lowdelay.proofs.wide.read_component.Given as goal

abbrev pub invariant-loop-b : goal.invariant-loop-b
invariant-loop-b l = ReadUpTo l.bands l.c l.block l.b l.coefficients.items l.left

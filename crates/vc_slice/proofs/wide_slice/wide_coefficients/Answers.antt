use Rattle.std.proofs.lemmas.Grind.{common_steps}
use Rattle.std.proofs.Common.{arith}
use Rattle.vc_slice.proofs.NarrowRuns.{length-block}
use Rattle.vc_slice.proofs.WideSlices.{long_three, read_three}
use Rattle.vc_slice.proofs.wide_slice.wide_coefficients.Goals as goal

pub wide-requires : goal.wide-requires
wide-requires c = grind (arith, common_steps, long_three, length-block)

pub returns-clause-value : goal.returns-clause-value
returns-clause-value c = rw (← c.requires.index) (grind (arith, read_three, length-block))

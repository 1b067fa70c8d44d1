use Rattle.std.proofs.Common.{arith}
use Rattle.vc_slice.proofs.WrittenBlocks.{kept_front, some_bits}
use Rattle.vc_slice.proofs.narrow_codes.used_count.Goals as goal

pub returns-else-numbers-count-eq0-clause-value : goal.returns-else-numbers-count-eq0-clause-value
returns-else-numbers-count-eq0-clause-value c = grind (arith, kept_front, some_bits)

pub returns-after-zeros-clause-value : goal.returns-after-zeros-clause-value
returns-after-zeros-clause-value c = kept_front c.zeros.count c.args.numbers.now c.zeros.invariant.within c.zeros.invariant.zeros (λ m e. absurd (omega (arith, e)))

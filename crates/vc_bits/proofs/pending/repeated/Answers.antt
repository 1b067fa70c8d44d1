use Rattle.std.proofs.lemmas.Grind.{common_steps}
use Rattle.std.proofs.Common.{ap, sym, ◌∙◌, arith, Bool, replicate}
use Rattle.std.proofs.lemmas.Nat.{one_shl}
use Rattle.vc_bits.proofs.Waiting.{zeros_are}
use Rattle.vc_bits.proofs.Words.{only_ones}
use Rattle.vc_bits.proofs.pending.repeated.Goals as goal

pub returns-then-bit-clause-value : goal.returns-then-bit-clause-value
returns-then-bit-clause-value c = grind (arith, common_steps, one_shl, only_ones)

pub returns-else-bit-clause-value : goal.returns-else-bit-clause-value
returns-else-bit-clause-value c = zeros_are c.args.count ∙ ap (λ (bit : Bool). replicate c.args.count bit) (sym c.if-bit.false)

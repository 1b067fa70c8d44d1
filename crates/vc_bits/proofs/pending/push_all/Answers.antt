use Rattle.std.proofs.Common.{sym, ◌∙◌, arith}
use Rattle.vc_bits.proofs.Waiting.{no_bits}
use Rattle.vc_bits.proofs.pending.push_all.Goals as goal

pub returns : goal.returns
returns c = record { bits = sym (no_bits c.bytes.bytes.items c.bytes.left c.args.word (omega arith)) ∙ c.bytes.invariant.bits }

use Rattle.std.proofs.Common.{◌++◌, ◌∙◌, ap, Bool, List}
use Rattle.std.proofs.lemmas.Result.{on_ok_weaker}
use Rattle.vc_bits.proofs.Waiting.{single_bit}
use Rattle.vc_bits.proofs.writer.BitWriter.bit.Goals as goal

pub returns-clause-ok : goal.returns-clause-ok
returns-clause-ok c = on_ok_weaker c.bits.result (λ wrote. wrote ∙ ap (λ (bits : List Bool). c.args.self.now ++ bits) (single_bit c.args.bit c.from.result c.from.ensures)) c.bits.ensures.ok

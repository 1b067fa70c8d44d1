use Rattle.std.proofs.Common.{◌++◌, ◌∙◌, ap, Bool, List, ℕ}
use Rattle.std.proofs.lemmas.Result.{on_ok_weaker}
use Rattle.vc_bits.specs.Bits.{word_bits}
use Rattle.vc_bits.proofs.Words.{byte_is_word}
use Rattle.vc_bits.proofs.writer.BitWriter.byte.Goals as goal

pub returns : goal.returns
returns c = on_ok_weaker c.bits.result (λ wrote.
    wrote ∙ ap (λ (bits : List Bool). c.args.self.now ++ bits) (ap (λ (n : ℕ). word_bits 8 n) c.from.ensures ∙ byte_is_word c.args.byte)) c.bits.ensures.ok

use Rattle.std.proofs.Common.{◌-◌, ◌%◌, refl}
use Rattle.std.proofs.lemmas.Result.{on_ok_weaker}
use Rattle.vc_bits.proofs.Waiting.{filled_up}
use Rattle.vc_bits.proofs.writer.BitWriter.align.Goals as goal

pub returns-clause-ok : goal.returns-clause-ok
returns-clause-ok c = on_ok_weaker c.bits.result (λ wrote.
    filled_up c.self.inside.bytes.items c.self.inside.count c.self.inside.word ((8 - c.self.inside.count % 8) % 8) c.repeated.result c.args.fill c.args.self.now c.bits.new.self c.self.view_is refl c.repeated.ensures.value wrote) c.bits.ensures.ok

use Rattle.std.proofs.lemmas.Result.{IfOk-weaker}
use Rattle.vc_types.specs.SequenceHeader.{sequence_of}
use Rattle.vc_types.proofs.WrittenHeaders.{header_with_again}
use Rattle.vc_seqhdr.proofs.writer.write_header_with.Goals as goal

pub returns-clause-read_again : goal.returns-clause-read_again
returns-clause-read_again c = IfOk-weaker c.spell.result _ _
    (λ v written behind. header_with_again c.args.shown.now (sequence_of c.args.h.now) v.items behind c.requires.presentation c.requires.form c.args.h.now.dimensions written)
    c.spell.ensures

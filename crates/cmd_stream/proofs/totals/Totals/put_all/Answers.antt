use Rattle.std.proofs.Common.{◌∷◌, [], ◌++◌, take, ap, sym, ◌∙◌, arith}
use Rattle.std.proofs.lemmas.List.{take_more}
use Rattle.link_sender.specs.declared.datagram.Datagram.{Datagram}
use Rattle.cmd_stream.proofs.PuttingEntries.{entry_some}
use Rattle.cmd_stream.proofs.totals.Totals.put_all.Goals as goal

pub put_entry-requires : goal.put_entry-requires
put_entry-requires g c = rw c.deref.ensures.value (omega (arith, c.datagram-item.result.fits))

pub returns-in-Err-clause-err : goal.returns-in-Err-clause-err
returns-in-Err-clause-err g c =
    let all = c.args.datagrams.now in
    let i = c.loop-datagram.datagram-index in
    let more = take_more all i c.datagram-item.result c.loop-datagram-test.true ∙ ap (λ (d : Datagram). take i all ++ d ∷ []) (sym c.datagram-item.is) in
    entry_some all i c.datagram-item.result more _ _ _ c.loop-datagram.invariant.grew (rw c.deref.ensures.value at c.in-Err.ensures.err)

use Rattle.std.proofs.Common.{◌∷◌, [], ◌++◌, take, ap, sym, subst, ◌∙◌, arith}
use Rattle.std.proofs.lemmas.List.{take_more}
use Rattle.link_sender.specs.declared.datagram.Datagram.{Datagram}
use Rattle.cmd_send.proofs.Laws.{OutletLaws}
use Rattle.link_sender.specs.Packing.{bytes_of_all}
use Rattle.cmd_send.specs.Counted.{totals_with}
use Rattle.cmd_send.proofs.PuttingAll.{all_put, anyhow, flushed, not_flushed, put_part, room_for_bytes, room_for_count}
use Rattle.cmd_send.proofs.totals.Totals.put_all.Goals as goal

pub overflow_add-self-in-Ok : goal.overflow_add-self-in-Ok
overflow_add-self-in-Ok g c =
    let all = c.args.datagrams.now in
    let i = c.loop-datagram.datagram-index in
    let more = take_more all i c.datagram-item.result c.loop-datagram-test.true ∙ ap (λ (d : Datagram). take i all ++ d ∷ []) (sym c.datagram-item.is) in
    let count = room_for_count all i c.datagram-item.result more _ _ c.loop-datagram.invariant.totals c.requires.room in
    let bytes = room_for_bytes all i c.datagram-item.result more _ _ c.loop-datagram.invariant.totals c.requires.room in
    omega (arith, count, bytes)

pub returns-in-Err-clause-broke : goal.returns-in-Err-clause-broke
returns-in-Err-clause-broke g c =
    let all = c.args.datagrams.now in
    let i = c.loop-datagram.datagram-index in
    let laws : OutletLaws g.O.Outlet.carried g.O.Outlet.broke = record { none = g.met.O.Outlet.none; more = g.met.O.Outlet.more; breaks_then = g.met.O.Outlet.breaks_then; breaks_before = g.met.O.Outlet.breaks_before } in
    let more = take_more all i c.datagram-item.result c.loop-datagram-test.true ∙ ap (λ (d : Datagram). take i all ++ d ∷ []) (sym c.datagram-item.is) in
    let broke = rw c.deref.ensures.value at c.in-Err.ensures.broke in
    put_part all i c.datagram-item.result more laws c.args.outlet.now _ c.in-Err.fault (broke c.args.outlet.now (bytes_of_all (take i all)) c.loop-datagram.invariant.took)

pub returns-clause-carried : goal.returns-clause-carried
returns-clause-carried g c =
    let all = c.args.datagrams.now in
    let outlet = c.args.outlet.now in
    let took = subst (g.O.Outlet.took outlet c.loop-datagram.outlet) (all_put all c.loop-datagram.datagram-index (omega (arith, c.loop-datagram-test.false))) c.loop-datagram.invariant.took in
    flushed g.O.Outlet.took g.O.Outlet.carried g.O.Outlet.broke outlet c.loop-datagram.outlet c.flush.new.self (bytes_of_all all) took c.flush.result c.flush.ensures.carried

pub returns-clause-broke : goal.returns-clause-broke
returns-clause-broke g c =
    let all = c.args.datagrams.now in
    let outlet = c.args.outlet.now in
    let took = subst (g.O.Outlet.took outlet c.loop-datagram.outlet) (all_put all c.loop-datagram.datagram-index (omega (arith, c.loop-datagram-test.false))) c.loop-datagram.invariant.took in
    not_flushed g.O.Outlet.took g.O.Outlet.carried g.O.Outlet.broke outlet c.loop-datagram.outlet c.flush.new.self (bytes_of_all all) took c.flush.result c.flush.ensures.broke

pub returns-clause-totals : goal.returns-clause-totals
returns-clause-totals g c =
    let all = all_put c.args.datagrams.now c.loop-datagram.datagram-index (omega (arith, c.loop-datagram-test.false)) in
    anyhow c.flush.result (c.loop-datagram.invariant.totals ∙ ap (totals_with c.args.self.now) all)

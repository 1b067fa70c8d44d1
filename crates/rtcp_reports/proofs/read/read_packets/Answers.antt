use Rattle.std.proofs.Common.{◌∙◌, sym, arith, length}
use Rattle.std.proofs.lemmas.Bool.{eqb-true, eqb-false}
use Rattle.std.proofs.lemmas.Result.{err_from_is_err_and}
use Rattle.rtcp_reports.proofs.PacketChains.{no_packets, a_refusal, more_packets}
use Rattle.rtcp_reports.proofs.read.read_packets.Goals as goal

pub packets-preserved : goal.packets-preserved
packets-preserved c =
    let some = eqb-false (length c.packets.rest.now) 0 (sym c.is_empty.ensures ∙ c.packets-test.true) in
    rw c.split_at.ensures.back
    (more_packets c.packets.rest.now c.in_ok-size.size (omega (arith, some)) (sym c.in_ok-size.ensures.value) ∙ c.packets.invariant)

pub returns-in_err-size-clause-err : goal.returns-in_err-size-clause-err
returns-in_err-size-clause-err c =
    let some = eqb-false (length c.packets.rest.now) 0 (sym c.is_empty.ensures ∙ c.packets-test.true) in
    let p = err_from_is_err_and c.from_residual.result c.from_residual.ensures.1 in
    rw (p.1, p.2) (sym c.packets.invariant ∙ a_refusal c.packets.rest.now _ (omega (arith, some)) (sym c.in_err-size.ensures.value))

pub returns-clause-ok : goal.returns-clause-ok
returns-clause-ok c = sym c.packets.invariant
    ∙ no_packets c.packets.rest.now (eqb-true (length c.packets.rest.now) 0 (sym c.is_empty.ensures ∙ c.packets-test.false))

use Rattle.std.proofs.Common.{◌+◌, arith}
use Rattle.link_hearing.proofs.PcapArriving.{fed_last, fed_lost, fed_most, not_fed, sooner}
use Rattle.link_hearing.proofs.pcap_inlet.PcapInletInlet.next.Goals as goal

pub next_payload-requires : goal.next_payload-requires
next_payload-requires g c =
    let ready = c.requires.ready in sooner (ready.0 + 1) 1 _ _ (omega arith) ready.1

pub returns-in-Ok-clause-brings : goal.returns-in-Ok-clause-brings
returns-in-Ok-clause-brings g c =
    let fed = c.in-Ok-Payload.ensures in
    let brought = rw c.in-Ok-Payload.field-0-is at fed.feeds in
    (fed.borrows, rw c.in-Ok.ensures brought.brought)

-- no memory for what was read
pub returns-in-Err-shared-clause-brings : goal.returns-in-Err-shared-clause-brings
returns-in-Err-shared-clause-brings g c =
    let fed = c.in-Ok-Payload.ensures in
    (fed.borrows, fed_lost _ _ _ (rw c.in-Ok-Payload.field-0-is at fed.feeds))

pub returns-in-Ok-End-clause-brings : goal.returns-in-Ok-End-clause-brings
returns-in-Ok-End-clause-brings g c =
    let fed = c.in-Ok-End.ensures in
    (fed.borrows, fed_last _ _ (rw c.in-Ok-End.field-0-is at fed.feeds))

pub returns-in-Ok-Limit-clause-brings : goal.returns-in-Ok-Limit-clause-brings
returns-in-Ok-Limit-clause-brings g c =
    let fed = c.in-Ok-Limit.ensures in
    (fed.borrows, fed_most _ _ _ c.records.ensures (rw c.in-Ok-Limit.field-0-is at fed.feeds))

pub returns-in-Err-clause-brings : goal.returns-in-Err-clause-brings
returns-in-Err-clause-brings g c =
    let fed = c.in-Err.ensures in
    (fed.borrows, rw c.record_ending.ensures (not_fed _ _ c.in-Err.fault fed.feeds))

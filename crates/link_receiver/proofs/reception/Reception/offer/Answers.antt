use Rattle.link_receiver.proofs.Asked.{keeps_twice}
use Rattle.link_receiver.proofs.CallSteps.{hands_back, hands_then, made_once, made_twice, offered_once, offered_twice}
use Rattle.link_receiver.proofs.reception.Reception.offer.Goals as goal

-- it has a place
pub returns-in_default-clause-exchanged : goal.returns-in_default-clause-exchanged
returns-in_default-clause-exchanged g c =
    offered_once _ _ _ _ c.args.load.job c.in_ok-load.field-0 c.in_ok-load.ensures.exchanged

-- nothing may come
pub returns-then-not-may_come-clause-exchanged : goal.returns-then-not-may_come-clause-exchanged
returns-then-not-may_come-clause-exchanged g c =
    let back = rw c.in-Some.is at c.in_ok-load.ensures.back in
    let put = rw c.in-Some.is at c.in_ok-load.ensures.exchanged in
    made_once _ _ _ _ _ c.args.load.job (hands_back _ _ _ _ c.args.load.job c.in-Some.load put)
    (rw back at c.in_ok-make.ensures.made)

-- nothing came
pub returns-then-not-branch-clause-exchanged : goal.returns-then-not-branch-clause-exchanged
returns-then-not-branch-clause-exchanged g c =
    let back = rw c.in-Some.is at c.in_ok-load.ensures.back in
    let put = rw c.in-Some.is at c.in_ok-load.ensures.exchanged in
    let all = c.in_ok-ask_first.ensures.exchanged in
    made_once _ _ _ _ _ c.args.load.job
    (hands_then _ _ _ _ _ _ c.args.load.job
    (hands_back _ _ _ _ c.args.load.job c.in-Some.load put) (all.0, all.1, all.2))
    (rw back at c.in_ok-make-2.ensures.made)

-- it has a place the second time
pub returns-in_default-2-clause-exchanged : goal.returns-in_default-2-clause-exchanged
returns-in_default-2-clause-exchanged g c =
    let back = rw c.in-Some.is at c.in_ok-load.ensures.back in
    let put = rw c.in-Some.is at c.in_ok-load.ensures.exchanged in
    let all = c.in_ok-ask_first.ensures.exchanged in
    offered_twice _ _ _ _ _ _ c.args.load.job c.in_ok-load-2.field-0
    (hands_then _ _ _ _ _ _ c.args.load.job
    (hands_back _ _ _ _ c.args.load.job c.in-Some.load put) (all.0, all.1, all.2))
    (rw back at c.in_ok-load-2.ensures.exchanged)

-- it is handed back twice
pub returns-in_ok-make-3-clause-exchanged : goal.returns-in_ok-make-3-clause-exchanged
returns-in_ok-make-3-clause-exchanged g c =
    let back = rw c.in-Some.is at c.in_ok-load.ensures.back in
    let put = rw c.in-Some.is at c.in_ok-load.ensures.exchanged in
    let again = rw (c.in-Some-2.is, back) at c.in_ok-load-2.ensures.exchanged in
    let all = c.in_ok-ask_first.ensures.exchanged in
    made_twice _ _ _ _ _ _ _ c.args.load.job c.in-Some-2.load
    (hands_then _ _ _ _ _ _ c.args.load.job
    (hands_back _ _ _ _ c.args.load.job c.in-Some.load put) (all.0, all.1, all.2))
    again (rw (rw (c.in-Some-2.is, back) at c.in_ok-load-2.ensures.back) at c.in_ok-make-3.ensures.made)

-- the places are kept by all three calls
pub returns-in_err-load-2-clause-places : goal.returns-in_err-load-2-clause-places
returns-in_err-load-2-clause-places g c =
    keeps_twice (keeps_twice c.put.ensures.places c.ask_first.ensures.places) c.put-2.ensures.places

pub returns-in_default-2-clause-places : goal.returns-in_default-2-clause-places
returns-in_default-2-clause-places g c =
    keeps_twice (keeps_twice c.put.ensures.places c.ask_first.ensures.places) c.put-2.ensures.places

pub returns-in_err-make-3-clause-places : goal.returns-in_err-make-3-clause-places
returns-in_err-make-3-clause-places g c = rw c.make-in-Some-2.ensures.out
    (keeps_twice (keeps_twice c.put.ensures.places c.ask_first.ensures.places) c.put-2.ensures.places)

pub returns-in_ok-make-3-clause-places : goal.returns-in_ok-make-3-clause-places
returns-in_ok-make-3-clause-places g c = rw c.make-in-Some-2.ensures.out
    (keeps_twice (keeps_twice c.put.ensures.places c.ask_first.ensures.places) c.put-2.ensures.places)

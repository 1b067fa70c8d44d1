use Rattle.link_receiver.proofs.Entering.{waits_at_end, fails_at_end, fails_released_at_end, fails_last, ended_behind, drains}
use Rattle.link_receiver.proofs.Asked.{keeps_twice}
use Rattle.vc_types.proofs.Failures.{on_err}
use Rattle.link_receiver.proofs.reception.Reception.finish.Goals as goal

pub release_all-requires-clause-waiting : goal.release_all-requires-clause-waiting
release_all-requires-clause-waiting g c = waits_at_end c.args.self.now c.end_input.ensures
    c.in_ok-next.ensures.exchanged c.requires.waiting

pub returns-in_err-release_all-clause-failed : goal.returns-in_err-release_all-clause-failed
returns-in_err-release_all-clause-failed g c = on_err _ _ (fails_at_end
    c.args.self.now c.end_input.ensures c.in_ok-next.ensures.exchanged c.args.written.now
    _ _ c.in_err-release_all.ensures.err)

pub returns-in_err-give_up_field-clause-failed : goal.returns-in_err-give_up_field-clause-failed
returns-in_err-give_up_field-clause-failed g c = on_err _ _ (fails_released_at_end
    c.args.self.now c.end_input.ensures c.in_ok-next.ensures.exchanged
    c.in_ok-release_all.ensures.released)

pub returns-in_err-end-clause-failed : goal.returns-in_err-end-clause-failed
returns-in_err-end-clause-failed g c = on_err _ _ (fails_last c.args.self.now
    c.end_input.ensures c.in_ok-next.ensures.exchanged c.in_ok-release_all.ensures.released _
    c.in_err-end.ensures.err)

pub returns-clause-has_ended : goal.returns-clause-has_ended
returns-clause-has_ended g c = ended_behind c.args.self.now c.end_input.ensures
    c.in_ok-next.ensures.exchanged c.in_ok-release_all.ensures.released
    c.in_ok-give_up_field.ensures.value

pub returns-clause-drained : goal.returns-clause-drained
returns-clause-drained g c = drains c.args.self.now c.end_input.ensures
    c.in_ok-next.ensures.exchanged c.in_ok-release_all.ensures.released
    c.in_ok-give_up_field.ensures.value _ c.in_ok-end.ensures.ok

pub returns-in_err-next-clause-places : goal.returns-in_err-next-clause-places
returns-in_err-next-clause-places g c = c.take_back.ensures.places

pub returns-in_err-release_all-clause-places : goal.returns-in_err-release_all-clause-places
returns-in_err-release_all-clause-places g c = keeps_twice c.take_back.ensures.places c.release_all.ensures.places

pub returns-in_err-give_up_field-clause-places : goal.returns-in_err-give_up_field-clause-places
returns-in_err-give_up_field-clause-places g c = rw c.give_up_field.ensures.out (keeps_twice c.take_back.ensures.places c.release_all.ensures.places)

pub returns-in_err-end-clause-places : goal.returns-in_err-end-clause-places
returns-in_err-end-clause-places g c = rw c.give_up_field.ensures.out (keeps_twice c.take_back.ensures.places c.release_all.ensures.places)

pub returns-clause-places : goal.returns-clause-places
returns-clause-places g c = rw c.give_up_field.ensures.out (keeps_twice c.take_back.ensures.places c.release_all.ensures.places)

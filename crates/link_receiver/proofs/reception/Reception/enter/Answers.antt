use Rattle.std.proofs.Common.{◌≤◌, ℕ, sym, subst}
use Rattle.link_receiver.proofs.Entering.{waits_exchanged, fails_early, fails_in, fails_released, size_released, goes_on_behind, has_ended_behind, enters}
use Rattle.link_receiver.proofs.Asked.{keeps_none, keeps_twice}
use Rattle.vc_types.proofs.Failures.{on_err}
use Rattle.std.specs.Option.{option_map}
use Rattle.link_window.specs.Openings.{session_of}
use Rattle.link_receiver.proofs.reception.Reception.enter.Goals as goal

pub returns-in_err-kept-clause-failed : goal.returns-in_err-kept-clause-failed
returns-in_err-kept-clause-failed g c = on_err _ _
    (fails_early c.args.written.now c.args.self.now c.args.datagram.now _)

pub exchange-requires : goal.exchange-requires
exchange-requires g c = record { below = rw c.keep.ensures.out c.requires.below }

pub release_all-requires-clause-waiting : goal.release_all-requires-clause-waiting
release_all-requires-clause-waiting g c = waits_exchanged _ _ _ c.in_ok-kept.ensures.value
    c.in_ok-next.ensures.exchanged c.requires.goes_on.waiting

pub returns-in_err-release_all-clause-failed : goal.returns-in_err-release_all-clause-failed
returns-in_err-release_all-clause-failed g c = on_err _ _ (fails_in _ _ _ c.in_ok-kept.ensures.value
    c.in_ok-next.ensures.exchanged c.args.written.now _ _ c.in_err-release_all.ensures.err)

pub open-requires-clause-least : goal.open-requires-clause-least
open-requires-clause-least g c = subst (λ (n : ℕ). 2 ≤ n)
    (sym (size_released _ _ _ c.in_ok-kept.ensures.value c.in_ok-next.ensures.exchanged
    c.in_ok-release_all.ensures.released)) c.requires.goes_on.least

pub open-requires-clause-most : goal.open-requires-clause-most
open-requires-clause-most g c = subst (λ (n : ℕ). n ≤ 8)
    (sym (size_released _ _ _ c.in_ok-kept.ensures.value c.in_ok-next.ensures.exchanged
    c.in_ok-release_all.ensures.released)) c.requires.goes_on.most

pub returns-in_err-open-clause-failed : goal.returns-in_err-open-clause-failed
returns-in_err-open-clause-failed g c = on_err _ _ (fails_released _ _ _
    c.in_ok-kept.ensures.value c.in_ok-next.ensures.exchanged
    c.in_ok-release_all.ensures.released)

pub returns-in_err-open_next-clause-failed : goal.returns-in_err-open_next-clause-failed
returns-in_err-open_next-clause-failed g c = on_err _ _ (fails_released _ _ _
    c.in_ok-kept.ensures.value c.in_ok-next.ensures.exchanged
    c.in_ok-release_all.ensures.released)

pub returns-clause-entered : goal.returns-clause-entered
returns-clause-entered g c = enters _ _ _ c.in_ok-kept.ensures.value
    c.in_ok-next.ensures.exchanged
    c.in_ok-release_all.ensures.released c.is_idle-is_first.ensures c.deref.ensures
    c.in_ok-kept.ensures.jobs c.in_ok-kept.ensures.outcome
    c.in_ok-kept.ensures.opening c.in_ok-open.ensures.value c.in_ok-open_next.ensures

pub returns-clause-goes_on : goal.returns-clause-goes_on
returns-clause-goes_on g c = goes_on_behind _ _ _ c.in_ok-kept.ensures.value
    c.in_ok-next.ensures.exchanged c.in_ok-release_all.ensures.released c.requires.goes_on
    c.in_ok-release_all.ensures.waiting c.in_ok-kept.kept.opening c.in_ok-kept.ensures.running
    c.in_ok-open.ensures.value

pub returns-clause-has_ended : goal.returns-clause-has_ended
returns-clause-has_ended g c = has_ended_behind _ _ _ c.in_ok-kept.ensures.value
    c.in_ok-next.ensures.exchanged c.in_ok-release_all.ensures.released
    (option_map session_of c.in_ok-kept.kept.opening) c.in_ok-open.ensures.value

pub returns-in_err-kept-clause-places : goal.returns-in_err-kept-clause-places
returns-in_err-kept-clause-places g c = keeps_none (rw c.keep.ensures.out c.requires.below)

pub returns-in_err-next-clause-places : goal.returns-in_err-next-clause-places
returns-in_err-next-clause-places g c = c.exchange.ensures.places

pub returns-in_err-release_all-clause-places : goal.returns-in_err-release_all-clause-places
returns-in_err-release_all-clause-places g c = keeps_twice c.exchange.ensures.places c.release_all.ensures.places

pub returns-in_err-open_next-clause-places : goal.returns-in_err-open_next-clause-places
returns-in_err-open_next-clause-places g c = keeps_twice c.exchange.ensures.places c.release_all.ensures.places

pub returns-in_err-open-clause-places : goal.returns-in_err-open-clause-places
returns-in_err-open-clause-places g c = rw c.open.ensures.out (keeps_twice c.exchange.ensures.places c.release_all.ensures.places)

pub returns-clause-places : goal.returns-clause-places
returns-clause-places g c = rw c.open.ensures.out (keeps_twice c.exchange.ensures.places c.release_all.ensures.places)

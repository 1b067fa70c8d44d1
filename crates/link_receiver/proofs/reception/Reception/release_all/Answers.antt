use Rattle.std.proofs.Common.{◌≡◌, ◌-◌, ◌+◌, ◌∙◌, suc, Some, None, ap, sym, arith, ℕ}
use Rattle.std.specs.Option.{option_map}
use Rattle.receiver_model.specs.Releasing.{book_count, next_picture}
use Rattle.link_receiver.proofs.Asked.{keeps_none, keeps_twice}
use Rattle.link_receiver.proofs.ReleaseLoop.{releasing_begins, releasing_goes_on, releasing_fails, releasing_stops, releasing_ends}
use Rattle.vc_types.proofs.Failures.{on_err}
use Rattle.link_window.specs.Views.{releasable_of}
use Rattle.link_receiver.proofs.reception.Reception.release_all.Goals as goal

pub loop-init : goal.loop-init
loop-init g c =
    grind (arith, releasing_begins, keeps_none, c.open_pictures-end.ensures, c.requires.next, c.requires.waiting, c.requires.below)

pub returns-in_default-clause-released : goal.returns-in_default-clause-released
returns-in_default-clause-released g c =
    let none : next_picture c.loop.self ≡ None = sym c.loop.invariant.next
    ∙ ap (option_map releasable_of) c.in_default.is in
    releasing_stops c.loop.invariant.releasing none

pub returns-clause-released : goal.returns-clause-released
returns-clause-released g c =
    let left : book_count c.args.self.now - c.loop.counter ≡ 0 =
    omega (arith, c.loop.invariant.within, c.loop-test.false) in
    releasing_ends c.loop.invariant.releasing left

pub returns-in_err-release-clause-err : goal.returns-in_err-release-clause-err
returns-in_err-release-clause-err g c =
    let n : ℕ = book_count c.args.self.now in
    let e : n - c.loop.counter ≡ suc (n - (c.loop.counter + 1)) =
    omega (arith, c.loop.invariant.within, c.loop-test.true) in
    let next : next_picture c.loop.self ≡ Some (releasable_of c.in-Some.picture) =
    sym c.loop.invariant.next ∙ ap (option_map releasable_of) c.in-Some.is in
    on_err _ _ (releasing_fails e c.loop.invariant.releasing
    (releasable_of c.in-Some.picture) next _ c.in_err-release.ensures.err)

pub loop-preserved : goal.loop-preserved
loop-preserved g c =
    let n : ℕ = book_count c.args.self.now in
    let e : n - c.loop.counter ≡ suc (n - (c.loop.counter + 1)) =
    omega (arith, c.loop.invariant.within, c.loop-test.true) in
    let next : next_picture c.loop.self ≡ Some (releasable_of c.in-Some.picture) =
    sym c.loop.invariant.next ∙ ap (option_map releasable_of) c.in-Some.is in
    record {
      releasing = rw c.note_released.ensures (releasing_goes_on e c.loop.invariant.releasing
          (releasable_of c.in-Some.picture) next _ _ _ _ c.in_ok-release.ensures.value
          c.in_ok-release.ensures.kept
          c.in_ok-release.ensures.written c.in_ok-release.ensures.told);
      within = c.loop.invariant.within;
      later = omega (arith, c.loop.invariant.later, c.release.ensures.cause.later);
      next = c.next_release-next.ensures;
      waiting = rw c.note_released.ensures c.in_ok-release.ensures.waiting;
      places = rw c.note_released.ensures (keeps_twice c.loop.invariant.places c.release.ensures.places);
    }

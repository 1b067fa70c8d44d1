use Rattle.link_hearing.proofs.Arriving.{none_left, not_read, one_lost, one_read}
use Rattle.link_hearing.proofs.capture_inlet.CaptureInletInlet.next.Goals as goal

pub returns-in-Ok-clause-brings : goal.returns-in-Ok-clause-brings
returns-in-Ok-clause-brings g c =
    let some = c.in-Ok-Some.ensures in
    let none = c.requires.ready.1.0 in
    let read = rw c.in-Ok-Some.field-0-is at (rw none at some.entry) in
    let moved = rw c.in-Ok-Some.field-0-is at some.place in (
      some.borrows,
      rw c.in-Ok.ensures.ok (one_read _ _ _ _ _ (rw none at some.cause).later _ _ read moved),
    )

-- no memory for what was read
pub returns-in-Ok-Some-clause-brings : goal.returns-in-Ok-Some-clause-brings
returns-in-Ok-Some-clause-brings g c =
    let some = c.in-Ok-Some.ensures in
    let none = c.requires.ready.1.0 in
    let read = rw c.in-Ok-Some.field-0-is at (rw none at some.entry) in
    (some.borrows, one_lost _ _ _ _ _ (rw none at some.cause).later _ read)

pub returns-in-Ok-None-clause-brings : goal.returns-in-Ok-None-clause-brings
returns-in-Ok-None-clause-brings g c =
    let now = c.in-Ok-None.ensures in
    let none = c.requires.ready.1.0 in
    let read = rw c.in-Ok-None.field-0-is at (rw none at now.entry) in
    (now.borrows, none_left _ _ _ _ _ (rw none at now.cause).later read)

pub returns-clause-brings : goal.returns-clause-brings
returns-clause-brings g c =
    let now = c.in-Err.ensures in
    let none = c.requires.ready.1.0 in (
      now.borrows,
      rw c.entry_ending.ensures
          (not_read _ _ _ _ _ c.in-Err.fault (rw none at now.cause) (rw none at now.entry)),
    )

use Rattle.std.proofs.Common.{refl}
use Rattle.link_outside.specs.CaptureLaws.{all_flushed, part_flushed}
use Rattle.link_outside.proofs.capture.CaptureOutletOutlet.flush.Goals as goal

pub returns-in-Ok-clause-carried : goal.returns-in-Ok-clause-carried
returns-in-Ok-clause-carried g c = λ first datagrams took.
    let now = c.in-Ok.ensures in
    (took.0, all_flushed _ _ _ _ _ _ _ datagrams took.1 now.ok now.cause.later)

pub returns-in-Err-clause-broke : goal.returns-in-Err-clause-broke
returns-in-Err-clause-broke g c = λ first datagrams took.
    let now = c.in-Err.ensures in
    (took.0, part_flushed _ _ _ _ _ _ _ datagrams took.1 now.err (now.cause.rose refl))

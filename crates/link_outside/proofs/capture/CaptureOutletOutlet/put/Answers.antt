use Rattle.std.proofs.Common.{◌∷◌, [], refl}
use Rattle.link_outside.specs.CaptureLaws.{one_kept, part_flushed, wrote_part_before}
use Rattle.link_outside.proofs.capture.CaptureOutletOutlet.put.Goals as goal

pub returns-in-Ok-clause-took : goal.returns-in-Ok-clause-took
returns-in-Ok-clause-took g c = λ first before took.
    let now = c.in-Ok.ensures in
    (took.0, one_kept _ _ _ _ _ _ _ before took.1 _ c.args.datagram.now now.ok now.cause.later)

pub returns-in-Err-clause-broke : goal.returns-in-Err-clause-broke
returns-in-Err-clause-broke g c = λ first before took.
    let now = c.in-Err.ensures in
    let part = part_flushed _ _ _ _ _ _ _ before took.1 now.err (now.cause.rose refl) in
    (took.0, wrote_part_before _ _ _ _ before (c.args.datagram.now ∷ []) _ part)

use Rattle.std.proofs.lemmas.Bool.Decides.{Decides-int_eq}
use Rattle.std.proofs.lemmas.Slice.Eq.{slice_eq-Decides}
use Rattle.vc_lift.proofs.columns.lift.Goals as goal

pub with_taps-requires : goal.with_taps-requires
with_taps-requires c =
    (slice_eq-Decides Decides-int_eq c.args.step.now.taps.now _ c.eq.result c.eq.ensures).0 c.if-eq.true

pub with_taps-requires-then-eq-2 : goal.with_taps-requires-then-eq-2
with_taps-requires-then-eq-2 c =
    (slice_eq-Decides Decides-int_eq c.args.step.now.taps.now _ c.eq-else-eq.result c.eq-else-eq.ensures).0
    c.if-eq-2.true

pub with_taps-requires-then-eq-3 : goal.with_taps-requires-then-eq-3
with_taps-requires-then-eq-3 c =
    (slice_eq-Decides Decides-int_eq c.args.step.now.taps.now _ c.eq-else-eq-2.result
    c.eq-else-eq-2.ensures).0 c.if-eq-3.true

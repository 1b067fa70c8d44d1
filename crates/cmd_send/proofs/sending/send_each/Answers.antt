use Rattle.std.proofs.Common.{ℕ, ◌+◌, ◌∙◌, ◌++◌, ◌∷◌, ◌^◌, [], List, length, Err, subst, sym, refl, arith, inr, length-append, ◌<◌}
use Rattle.frame_writer.specs.FrameBytes.{frame_length}
use Rattle.frame_writer.specs.Reading.{GaveFrame, ReadsFrame}
use Rattle.cmd_send.specs.Steps.{FailsAt, IsBehindFrames, FrameIsTaken}
use Rattle.cmd_send.proofs.FrameSizes.{sized}
use Rattle.cmd_send.proofs.Laws.{OutletLaws}
use Rattle.vc_ports.proofs.Fronts.{none_of_one}
use Rattle.cmd_send.proofs.LoopSteps.{failed_at, unread_at, more_than_one_byte, not_read}
use Rattle.cmd_send.proofs.Stopping.{begun, with_frame, could_not_read, past_limit}
use Rattle.vc_ports.specs.Reading.{Gave, GaveAll}
use Rattle.vc_types.specs.declared.shape.Shape.{Shape}
use Rattle.vc_types.specs.Planes.{Planes, planes_in}
use Rattle.vc_types.specs.declared.settings.SendSettings.{SendSettings}
use Rattle.vc_types.specs.SenderSettings.{sending_view}
use Rattle.cmd_send.proofs.sending.send_each.Goals as goal

pub loop-frame-init : goal.loop-frame-init
loop-frame-init g c =
    let laws : OutletLaws g.O.Outlet.carried g.O.Outlet.broke = record { none = g.met.O.Outlet.none; more = g.met.O.Outlet.more; breaks_then = g.met.O.Outlet.breaks_then; breaks_before = g.met.O.Outlet.breaks_before } in
    record {
      settings = refl;
      chooser = refl;
      sent = ([], refl, c.requires.behind, begun laws (sending_view c.args.sender.now.sender.settings) _ _ (let some = subst (λ (shape : Shape). 1 < frame_length shape) c.requires.shape (more_than_one_byte c.args.raw.shape c.requires.fits) in omega (arith, some)));
      ready = c.requires.ready;
      input_later = omega arith;
    }

pub take-requires-clause-range : goal.take-requires-clause-range
take-requires-clause-range g c = λ κs lives. rw c.loop-frame.invariant.chooser c.requires.range

pub take-requires-clause-chooses : goal.take-requires-clause-chooses
take-requires-clause-chooses g c = λ κs lives. rw (c.loop-frame.invariant.chooser, c.loop-frame.invariant.settings) c.requires.chooses

pub take-requires-clause-sizes : goal.take-requires-clause-sizes
take-requires-clause-sizes g c = λ κs lives.
    let read = rw c.in-Ok-Some.field-0-is at c.in-Ok-Some.ensures.frame in
    rw c.loop-frame.invariant.settings (sized (sending_view c.args.sender.now.sender.settings) c.args.raw.shape (planes_in c.in-Ok-Some.planes) _ _ c.requires.shape read)

pub returns-in-Err-take-clause-value : goal.returns-in-Err-take-clause-value
returns-in-Err-take-clause-value g c =
    let laws : OutletLaws g.O.Outlet.carried g.O.Outlet.broke = record { none = g.met.O.Outlet.none; more = g.met.O.Outlet.more; breaks_then = g.met.O.Outlet.breaks_then; breaks_before = g.met.O.Outlet.breaks_before } in
    let s = sending_view c.args.sender.now.sender.settings in
    let at = c.loop-frame.invariant.sent in
    let room : length at.0 < c.args.raw.most = omega (arith, at.1, c.loop-frame-test.true) in
    let frame = planes_in c.in-Ok-Some.planes in
    let read = rw c.in-Ok-Some.field-0-is at c.in-Ok-Some.ensures.frame in
    let gave = subst (λ (shape : Shape). GaveFrame shape (g.S.Source.left c.loop-frame.input) (g.S.Source.left c.read_frame.new.source) frame) c.requires.shape read in
    let value = subst (λ (st : SendSettings). (sent : List Planes) → length sent + 1 < 2 ^ 32 → IsBehindFrames (sending_view st) sent c.loop-frame.sender → FailsAt (sending_view st) sent (planes_in c.in-Ok-Some.planes) (g.O.Outlet.carried c.loop-frame.outlet c.take.new.outlet) (g.O.Outlet.broke c.loop-frame.outlet c.take.new.outlet) c.in-Err-take.ending) c.loop-frame.invariant.settings c.in-Err-take.ensures.value in
    failed_at laws s c.args.raw.most at.0 _ _ _ _ _ at.3 room frame gave c.in-Err-take.ending (value at.0 (omega (arith, at.1, c.loop-frame-test.true, c.args.raw.few)) at.2)

pub returns-in-Err-take-clause-input_cause : goal.returns-in-Err-take-clause-input_cause
returns-in-Err-take-clause-input_cause g c =
    let at = c.loop-frame.invariant.sent in
    let s = sending_view c.loop-frame.sender.sender.settings in
    let went = g.O.Outlet.carried c.loop-frame.outlet c.take.new.outlet in
    let broke = g.O.Outlet.broke c.loop-frame.outlet c.take.new.outlet in
    let behind : IsBehindFrames s at.0 c.loop-frame.sender = subst (λ (st : SendSettings). IsBehindFrames (sending_view st) at.0 c.loop-frame.sender) (sym c.loop-frame.invariant.settings) at.2 in
    let fails = c.in-Err-take.ensures.value at.0 (omega (arith, at.1, c.loop-frame-test.true, c.args.raw.few)) behind in
    record {
      later = omega (arith, c.loop-frame.invariant.input_later, c.in-Ok-Some.ensures.cause.later);
      rose = λ e. absurd (not_read s at.0 (planes_in c.in-Ok-Some.planes) went broke c.in-Err-take.ending fails e);
    }

pub returns-in-Err-clause-value : goal.returns-in-Err-clause-value
returns-in-Err-clause-value g c =
    let laws : OutletLaws g.O.Outlet.carried g.O.Outlet.broke = record { none = g.met.O.Outlet.none; more = g.met.O.Outlet.more; breaks_then = g.met.O.Outlet.breaks_then; breaks_before = g.met.O.Outlet.breaks_before } in
    let s = sending_view c.args.sender.now.sender.settings in
    let at = c.loop-frame.invariant.sent in
    let room : length at.0 < c.args.raw.most = omega (arith, at.1, c.loop-frame-test.true) in
    let read = subst (λ (shape : Shape). ReadsFrame shape (g.S.Source.left c.loop-frame.input) (g.S.Source.left c.read_frame.new.source) (Err c.in-Err.fault)) c.requires.shape c.in-Err.ensures.frame in
    rw (c.unread.ensures, sym at.1) (unread_at laws s c.args.raw.most at.0 _ _ _ _ _ at.3 room c.in-Err.fault read (g.met.O.Outlet.none _))

pub loop-frame-preserved : goal.loop-frame-preserved
loop-frame-preserved g c =
    let laws : OutletLaws g.O.Outlet.carried g.O.Outlet.broke = record { none = g.met.O.Outlet.none; more = g.met.O.Outlet.more; breaks_then = g.met.O.Outlet.breaks_then; breaks_before = g.met.O.Outlet.breaks_before } in
    let s = sending_view c.args.sender.now.sender.settings in
    let at = c.loop-frame.invariant.sent in
    let frame = planes_in c.in-Ok-Some.planes in
    let read = rw c.in-Ok-Some.field-0-is at c.in-Ok-Some.ensures.frame in
    let gave = subst (λ (shape : Shape). GaveFrame shape (g.S.Source.left c.loop-frame.input) (g.S.Source.left c.read_frame.new.source) frame) c.requires.shape read in
    let value = subst (λ (st : SendSettings). (sent : List Planes) → length sent + 1 < 2 ^ 32 → IsBehindFrames (sending_view st) sent c.loop-frame.sender → FrameIsTaken (sending_view st) sent (planes_in c.in-Ok-Some.planes) c.take.new.self (g.O.Outlet.carried c.loop-frame.outlet c.take.new.outlet)) c.loop-frame.invariant.settings c.in-Ok.ensures.value in
    let taken = value at.0 (omega (arith, at.1, c.loop-frame-test.true, c.args.raw.few)) at.2 in
    let long = length-append at.0 (frame ∷ []) in
    record {
      settings = c.in-Ok.ensures.settings ∙ c.loop-frame.invariant.settings;
      chooser = c.in-Ok.ensures.chooser ∙ c.loop-frame.invariant.chooser;
      sent = (at.0 ++ frame ∷ [], omega (arith, long, at.1), taken.behind, with_frame laws s at.0 _ _ _ _ at.3 _ frame gave _ taken.sound taken.sent);
      ready = c.in-Ok.ensures.ready;
      input_later = omega (arith, c.loop-frame.invariant.input_later, c.in-Ok-Some.ensures.cause.later);
    }

pub returns-in-Whole-clause-value : goal.returns-in-Whole-clause-value
returns-in-Whole-clause-value g c =
    let laws : OutletLaws g.O.Outlet.carried g.O.Outlet.broke = record { none = g.met.O.Outlet.none; more = g.met.O.Outlet.more; breaks_then = g.met.O.Outlet.breaks_then; breaks_before = g.met.O.Outlet.breaks_before } in
    let s = sending_view c.args.sender.now.sender.settings in
    let at = c.loop-frame.invariant.sent in
    let long = subst (λ (shape : Shape). 1 < frame_length shape) c.requires.shape (more_than_one_byte c.args.raw.shape c.requires.fits) in
    past_limit laws s c.args.raw.most at.0 _ _ _ _ _ at.3 (g.met.O.Outlet.none _) (omega (arith, at.1, c.loop-frame-test.false, c.loop-frame.auto.frame-end)) c.fill.new.buf c.fill.auto.buf long c.in-Whole.ensures.bytes

pub returns-in-End-clause-value : goal.returns-in-End-clause-value
returns-in-End-clause-value g c =
    let at = c.loop-frame.invariant.sent in
    let fills = c.in-End.ensures.bytes in
    record {
      frames = at.0;
      middle = g.S.Source.left c.loop-frame.input;
      few = omega (arith, at.1, c.loop-frame-test.false, c.loop-frame.auto.frame-end);
      behind = at.2;
      sent = at.3;
      end = subst (λ (bytes : List ℕ). GaveAll (g.S.Source.left c.loop-frame.input) (g.S.Source.left c.fill.new.source) bytes) (none_of_one c.fill.new.buf c.in-End.field-0 c.fill.auto.buf fills.0) fills.1;
    }

pub returns-clause-value : goal.returns-clause-value
returns-clause-value g c =
    let laws : OutletLaws g.O.Outlet.carried g.O.Outlet.broke = record { none = g.met.O.Outlet.none; more = g.met.O.Outlet.more; breaks_then = g.met.O.Outlet.breaks_then; breaks_before = g.met.O.Outlet.breaks_before } in
    let s = sending_view c.args.sender.now.sender.settings in
    let at = c.loop-frame.invariant.sent in
    let fills = c.in-Failed.ensures.bytes in
    let long = subst (λ (shape : Shape). 1 < frame_length shape) c.requires.shape (more_than_one_byte c.args.raw.shape c.requires.fits) in
    let gave = subst (λ (bytes : List ℕ). Gave (g.S.Source.left c.loop-frame.input) (g.S.Source.left c.fill.new.source) bytes) (none_of_one c.fill.new.buf c.in-Failed.field-0 c.fill.auto.buf fills.0) fills.1 in
    could_not_read laws s c.args.raw.most at.0 _ _ _ _ _ at.3 (g.met.O.Outlet.none _) [] (omega (arith, long)) gave (omega (arith, at.1, c.loop-frame.auto.frame-end)) (inr refl)

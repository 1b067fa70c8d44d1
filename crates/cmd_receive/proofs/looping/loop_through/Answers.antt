use Rattle.std.proofs.Common.{rules, refl}
use Rattle.vc_types.specs.SenderSettings.{sending_view}
use Rattle.cmd_receive.proofs.LoopAnswers.{all_sent, all_stopped, breaks, broke_off, fixed, sent_undrained, stopped_undrained}
use Rattle.cmd_receive.specs.Exchanges.{loop_state}
use Rattle.link_hearing.specs.Hearing.{fault_ending}
use Rattle.cmd_receive.proofs.looping.loop_through.Goals as goal

-- all was sent, and then the receiver broke off
pub returns-in_err-tally-in-Ok-clause-loops : goal.returns-in_err-tally-in-Ok-clause-loops
returns-in_err-tally-in-Ok-clause-loops g c =
    let x = loop_state g.N.Wire.told g.N.Wire.faults g.O.Sink.held g.O.Sink.faults g.P.Places.told g.P.Places.bound c.args.outlet.now in
    let y = loop_state g.N.Wire.told g.N.Wire.faults g.O.Sink.held g.O.Sink.faults g.P.Places.told g.P.Places.bound c.send_frames.new.outlet in
    let f = fixed _ (sending_view c.args.options.now.sender) c.args.options.now.frames _ x y _ c.in-Ok.ensures in
    sent_undrained (sending_view c.args.options.now.sender) c.args.options.now.frames _ x y f.0 _ f.1 _ (fault_ending c.in_err-tally-in-Ok.field-0.0) _ (search rules) c.in_err-tally-in-Ok.ensures.takes _ _ _ refl

-- sending stopped, and then the receiver broke off
pub returns-in_err-drain-in-Err-2-clause-loops : goal.returns-in_err-drain-in-Err-2-clause-loops
returns-in_err-drain-in-Err-2-clause-loops g c =
    let x = loop_state g.N.Wire.told g.N.Wire.faults g.O.Sink.held g.O.Sink.faults g.P.Places.told g.P.Places.bound c.args.outlet.now in
    let y = loop_state g.N.Wire.told g.N.Wire.faults g.O.Sink.held g.O.Sink.faults g.P.Places.told g.P.Places.bound c.send_frames.new.outlet in
    let f = fixed _ (sending_view c.args.options.now.sender) c.args.options.now.frames _ x y _ c.in-Err-2.ensures in
    stopped_undrained (sending_view c.args.options.now.sender) c.args.options.now.frames _ x y f.0 _ f.1 _ (fault_ending c.in_err-drain-in-Err-2.field-0.0) _ (search rules) c.in_err-drain-in-Err-2.ensures.takes c.in-Err-2.ending (search rules) refl

-- all was sent and heard
pub returns-in_ok-tally-in-Ok-clause-loops : goal.returns-in_ok-tally-in-Ok-clause-loops
returns-in_ok-tally-in-Ok-clause-loops g c =
    let x = loop_state g.N.Wire.told g.N.Wire.faults g.O.Sink.held g.O.Sink.faults g.P.Places.told g.P.Places.bound c.args.outlet.now in
    let y = loop_state g.N.Wire.told g.N.Wire.faults g.O.Sink.held g.O.Sink.faults g.P.Places.told g.P.Places.bound c.send_frames.new.outlet in
    let f = fixed _ (sending_view c.args.options.now.sender) c.args.options.now.frames _ x y _ c.in-Ok.ensures in
    all_sent (sending_view c.args.options.now.sender) c.args.options.now.frames _ x y f.0 _ f.1 _ _ _ _ _ refl c.in_ok-tally-in-Ok.ensures.takes _ c.looped.ensures

-- the receiver had broken off
pub returns-in-Err-clause-loops : goal.returns-in-Err-clause-loops
returns-in-Err-clause-loops g c =
    let x = loop_state g.N.Wire.told g.N.Wire.faults g.O.Sink.held g.O.Sink.faults g.P.Places.told g.P.Places.bound c.args.outlet.now in
    let y = loop_state g.N.Wire.told g.N.Wire.faults g.O.Sink.held g.O.Sink.faults g.P.Places.told g.P.Places.bound c.send_frames.new.outlet in
    let f = fixed _ (sending_view c.args.options.now.sender) c.args.options.now.frames _ x y _ c.in-Err.ensures in
    broke_off (sending_view c.args.options.now.sender) c.args.options.now.frames _ x y f.0 _ f.1 y.playout c.in-Err.ending (breaks (sending_view c.args.options.now.sender) c.args.options.now.frames _ x y f.0 _ f.1 c.in-Err.ending (search rules) refl)

-- sending stopped, and the rest was written
pub returns-in_ok-drain-in-Err-2-clause-loops : goal.returns-in_ok-drain-in-Err-2-clause-loops
returns-in_ok-drain-in-Err-2-clause-loops g c =
    let x = loop_state g.N.Wire.told g.N.Wire.faults g.O.Sink.held g.O.Sink.faults g.P.Places.told g.P.Places.bound c.args.outlet.now in
    let y = loop_state g.N.Wire.told g.N.Wire.faults g.O.Sink.held g.O.Sink.faults g.P.Places.told g.P.Places.bound c.send_frames.new.outlet in
    let f = fixed _ (sending_view c.args.options.now.sender) c.args.options.now.frames _ x y _ c.in-Err-2.ensures in
    all_stopped (sending_view c.args.options.now.sender) c.args.options.now.frames _ x y f.0 _ f.1 _ c.in-Err-2.ending _ (search rules) refl c.in_ok-drain-in-Err-2.ensures.takes _ (search rules)

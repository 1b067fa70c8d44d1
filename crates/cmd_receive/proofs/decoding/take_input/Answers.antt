use Rattle.std.proofs.Common.{rules, refl}
use Rattle.cmd_receive.proofs.Concluded.{input_back, not_started, took_input}
use Rattle.cmd_receive.specs.Playouts.{playout_state}
use Rattle.cmd_receive.proofs.decoding.take_input.Goals as goal

pub returns : goal.returns
returns g c = λ form window new.
    let first = c.new-playout.result in
    let was = c.new-playout.ensures in
    let out = c.conclude.new.playout in
    rw c.with_record_counts.ensures
    (input_back _ _ g.O.Sink.held g.O.Sink.faults g.P.Places.told c.args.output.now first.output.now out.output.now _ c.args.hands.now out.places.now _
    form window c.args.settings.now.workers c.args.settings.now.packets c.args.settings.now.form _ _
    (took_input form window c.args.settings.now.workers c.args.settings.now.packets c.args.settings.now.form _ (g.P.Places.told c.args.hands.now) (playout_state g.O.Sink.held g.O.Sink.faults g.P.Places.told g.P.Places.bound first) _ _ _ _ (rw was.receiver new) (rw was.places c.in-Ok.ensures.told)
    c.play_input-heard.ensures.heard c.conclude.ensures.concludes)
    was.output (search rules) (search rules))

pub returns-in_default : goal.returns-in_default
returns-in_default g c = λ form window new.
    not_started form window c.args.settings.now.workers c.args.settings.now.packets c.args.settings.now.form _ _ _ refl refl c.in_default.ensures.unchanged.2

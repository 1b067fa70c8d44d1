use Rattle.std.proofs.Common.{rules, refl, ap, arith, ◌∙◌, inl, inr}
use Rattle.receiver_model.specs.Receptions.{Reception}
use Rattle.cmd_receive.proofs.Concluded.{datagrams_back, just_started, not_begun, not_listening, took_datagrams}
use Rattle.link_hearing.specs.FromWire.{listening_at}
use Rattle.cmd_receive.specs.Playouts.{playout_state}
use Rattle.cmd_receive.proofs.receiving.receive.Goals as goal

-- no workers
pub returns-in_default : goal.returns-in_default
returns-in_default g c = not_begun c.args.options.now.fill c.args.options.now.window c.args.options.now.workers c.args.options.now.packets c.args.options.now.sessions (listening_at c.args.options.now.at.now c.args.options.now.idle) _ _ _ refl refl (inr c.in_default.ensures.unchanged.2)

-- no buffer
pub returns-in_default-new : goal.returns-in_default-new
returns-in_default-new g c = not_begun c.args.options.now.fill c.args.options.now.window c.args.options.now.workers c.args.options.now.packets c.args.options.now.sessions (listening_at c.args.options.now.at.now c.args.options.now.idle) _ _ _ refl refl (inl (just_started c.in-Ok.ensures.told))

-- a wire that doesn't listen
pub returns-in_default-listen : goal.returns-in_default-listen
returns-in_default-listen g c =
    not_listening c.args.options.now.fill c.args.options.now.window c.args.options.now.workers c.args.options.now.packets c.args.options.now.sessions (listening_at c.args.options.now.at.now c.args.options.now.idle) _ _ _ _ c.tally-tally.result.now c.in_default-listen.ensures.told refl (c.tally-tally.ensures ∙ ap (λ (r : Reception). r.counts) c.requires.new)
    (c.in_default-listen.ensures.cause.rose refl) c.in-Ok.ensures.told

pub returns : goal.returns
returns g c =
    let first = c.new-playout.result in
    let was = c.new-playout.ensures in
    let heard_by = c.new-inlet.ensures in
    let out = c.conclude.new.playout in
    let in_wire = c.hear_wire-heard.new.inlet in
    datagrams_back _ _ g.O.Sink.held g.O.Sink.faults g.P.Places.told c.args.output.now first.output.now out.output.now _ c.args.hands.now out.places.now _
    _ g.N.Wire.told g.N.Wire.faults c.args.wire.now in_wire.wire.now _
    c.args.options.now.fill c.args.options.now.window c.args.options.now.workers c.args.options.now.packets c.args.options.now.sessions (listening_at c.args.options.now.at.now c.args.options.now.idle) _
    (took_datagrams c.args.options.now.fill c.args.options.now.window c.args.options.now.workers c.args.options.now.packets c.args.options.now.sessions (listening_at c.args.options.now.at.now c.args.options.now.idle) _ _ _ _ _ _ (g.P.Places.told c.args.hands.now) (playout_state g.O.Sink.held g.O.Sink.faults g.P.Places.told g.P.Places.bound first) _ _ _ _
    (rw was.receiver c.requires.heard) (rw was.places c.in-Ok.ensures.told)
    (ap g.N.Wire.told heard_by.wire ∙ c.in-Yes.ensures.told) (omega (arith, ap g.N.Wire.faults heard_by.wire, c.in-Yes.ensures.cause.later))
    (c.hear_wire-heard.ensures.heard _ c.new-count.ensures) c.conclude.ensures.concludes)
    was.output (search rules) (search rules) (search rules)

use Rattle.std.proofs.Common.{rules, ◌∙◌, refl, ap, arith, inl, inr}
use Rattle.vc_ports.proofs.Counts.{Rose-earlier}
use Rattle.vc_ports.specs.Wires.{WireTold, aiming}
use Rattle.vc_types.specs.SenderSettings.{sending_view}
use Rattle.cmd_receive.proofs.Concluded.{just_started}
use Rattle.cmd_receive.proofs.LoopAnswers.{given_back, no_memory, no_wire}
use Rattle.cmd_receive.proofs.looping.loop_by.Goals as goal

-- no workers
pub returns-in_default : goal.returns-in_default
returns-in_default g c = no_memory (sending_view c.args.options.now.sent.sender) c.args.options.now.sent.frames c.args.options.now.window c.args.options.now.sent.workers c.args.options.now.at.now _ _ _ _ refl refl refl (inr c.in_default.ensures.unchanged.2)

-- no buffer
pub returns-in_default-new : goal.returns-in_default-new
returns-in_default-new g c = no_memory (sending_view c.args.options.now.sent.sender) c.args.options.now.sent.frames c.args.options.now.window c.args.options.now.sent.workers c.args.options.now.at.now _ _ _ _ refl refl refl (inl (just_started c.in-Ok.ensures.told))

-- a wire that doesn't listen
pub returns-in_default-listen : goal.returns-in_default-listen
returns-in_default-listen g c =
    no_wire (sending_view c.args.options.now.sent.sender) c.args.options.now.sent.frames c.args.options.now.window c.args.options.now.sent.workers c.args.options.now.at.now _ _ _ _ refl refl (inl c.in_default-listen.ensures.told) (c.in_default-listen.ensures.cause.rose refl) c.in-Ok.ensures.told

-- or isn't aimed
pub returns-in_default-aim : goal.returns-in_default-aim
returns-in_default-aim g c =
    no_wire (sending_view c.args.options.now.sent.sender) c.args.options.now.sent.frames c.args.options.now.window c.args.options.now.sent.workers c.args.options.now.at.now _ _ _ _ refl refl (inr (c.in_default-aim.ensures.told ∙ c.in-Yes.ensures.told))
    (Rose-earlier _ _ _ c.in-Yes.ensures.cause.later (c.in_default-aim.ensures.cause.rose refl)) c.in-Ok.ensures.told

pub returns : goal.returns
returns g c =
    let was = c.new-playout.ensures in
    let sent_by = c.new-inlet.ensures in
    let out = c.loop_through.new.outlet in
    given_back _ _ _ g.O.Sink.held g.O.Sink.faults g.N.Wire.told g.N.Wire.faults g.P.Places.told _ _ _ _ _ _ _
    c.args.output.now c.new-playout.result.output.now out.playout.output.now _ c.args.wire.now out.inlet.wire.now _ c.args.hands.now out.playout.places.now _
    (c.loop_through.ensures.loops c.args.options.now.window c.args.options.now.sent.workers c.args.options.now.at.now _ (g.N.Wire.faults c.args.wire.now) _ (record {
      ready = ap g.N.Wire.told sent_by.wire ∙ c.in-Yes-aim.ensures.told ∙ ap (λ (t : WireTold). aiming t c.args.options.now.at.now) c.in-Yes.ensures.told;
      later = omega (arith, ap g.N.Wire.faults sent_by.wire, c.in-Yes.ensures.cause.later, c.in-Yes-aim.ensures.cause.later);
      started = rw was.places c.in-Ok.ensures.told;
      new = rw was.receiver c.requires.heard;
    }))
    was.output (search rules) (search rules) (search rules)

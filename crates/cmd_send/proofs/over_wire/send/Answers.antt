use Rattle.std.proofs.Common.{rules, ap, arith, ◌∙◌}
use Rattle.vc_ports.specs.Changes.{input_of}
use Rattle.vc_types.specs.SenderSettings.{sending_view}
use Rattle.cmd_send.proofs.Aiming.{sends_back}
use Rattle.cmd_send.proofs.over_wire.send.Goals as goal

pub returns : goal.returns
returns g c =
    let outlet = c.new-outlet.ensures in
    let input = input_of g.S.Source.left g.S.Source.faults c.args.input.now c.send_through.new.input in
    sends_back g.N.Wire.told g.N.Wire.faults (sending_view c.args.options.now.sent.sender) c.args.options.now.sent.frames c.args.options.now.to.now c.send_through.result input
    c.args.wire.now c.new-outlet.result.wire.now c.send_through.new.outlet.wire.now
    (ap g.N.Wire.told outlet.wire ∙ c.in-Yes.ensures.told)
    (omega (arith, ap g.N.Wire.faults outlet.wire, c.in-Yes.ensures.cause.later))
    _ c.send_through.ensures.sends (search rules)

use Rattle.std.proofs.Common.{rules, refl, ap, arith, ◌∙◌}
use Rattle.vc_ports.specs.Changes.{input_of}
use Rattle.cmd_record.proofs.ReplayEnds.{not_aimed, replays, wire_back}
use Rattle.cmd_record.specs.Replayers.{replay_state}
use Rattle.cmd_record.proofs.replaying.replay_capture.Goals as goal

-- a wire that can't be aimed
pub returns-in_default : goal.returns-in_default
returns-in_default g c =
    not_aimed c.args.options.now.packets c.args.options.now.to.now _ _ refl refl c.in_default.ensures.told (c.in_default.ensures.cause.rose refl)

pub returns : goal.returns
returns g c =
    let was = c.new-replayer.ensures in
    let did = c.replay_through in
    let input = input_of g.S.Source.left g.S.Source.faults c.args.input.now did.new.input in
    let x = replay_state g.N.Wire.told g.N.Wire.faults c.new-replayer.result in
    let y = replay_state g.N.Wire.told g.N.Wire.faults did.new.replayer in
    let plays = did.ensures.plays in
    wire_back g.N.Wire.told g.N.Wire.faults c.args.wire.now did.new.replayer.wire.now _ c.args.options.now.packets c.args.options.now.to.now _ input
    (rw plays.answer_is
    (replays c.args.options.now.packets c.args.options.now.to.now input (g.N.Wire.told c.args.wire.now) (g.N.Wire.faults c.args.wire.now) x y
    (ap g.N.Wire.told was.wire ∙ c.in-Yes.ensures.told)
    (omega (arith, ap g.N.Wire.faults was.wire, c.in-Yes.ensures.cause.later)) was.datagrams was.bytes c.type_inv.options.0.1
    plays.told plays.heard))
    (search rules)

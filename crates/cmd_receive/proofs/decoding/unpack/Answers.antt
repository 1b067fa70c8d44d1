use Rattle.cmd_receive.proofs.decoding.unpack.Goals as goal

pub returns : goal.returns
returns g c = c.take_input.ensures _ _ c.units-receiver.ensures.heard
